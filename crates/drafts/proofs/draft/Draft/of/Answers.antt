use Rattle.std.proofs.Common.{◌≡◌, ◌++◌, List, length, take, replicate, sym, ap, ◌∙◌, arith, length-take}
use Rattle.std.proofs.lemmas.List.{take-replicate, take_all}
use Rattle.rows.specs.declared.Row.{Row}
use Rattle.compiling.specs.Working.{no_place}
use Rattle.drafts.proofs.draft.Draft.of.Goals as goal

pub invariant_of-draft : goal.invariant_of-draft
invariant_of-draft c =
    let s = c.args.source in
    let classes : length c.of.result ≡ s.vars = rw c.of.ensures (simp length-take (omega (arith, s.few, s.whole))) in
    let registers : length c.of-2.result ≡ s.vars = rw c.of-2.ensures (simp length-take (omega (arith, s.few))) in
    let places : length c.of-3.result ≡ s.vars = rw c.of-3.ensures (simp length-take (omega (arith, s.few))) in
    record { few = (c.extend.ensures.fits, omega (arith, classes, s.few)); whole = (registers ∙ sym classes, places) }

pub returns : goal.returns
returns c =
    let s = c.args.source in
    let all = take_all 512 (take s.count s.rows) (simp length-take (omega (arith, s.most))) in
    let rows : c.extend.new.self ≡ take s.count s.rows = c.extend.ensures.items ∙ (ap (λ (xs : List Row). take 512 (xs ++ take s.count s.rows)) c.new.ensures ∙ all) in
    let classes = take_all 448 (take s.vars s.classes) (simp length-take (omega (arith, s.few))) in
    let unplaced = take-replicate s.vars 64 no_place s.few in
    let places = take_all 64 (take s.vars (replicate 64 no_place)) (simp length-take (omega (arith, s.few))) in
    cc
