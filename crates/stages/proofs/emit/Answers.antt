use Rattle.std.proofs.Common.{sym, refl, ap, ◌∙◌, subst}
use mathlib.Core.Logic.{∥∥₁_map}
use Rattle.compiling.specs.Working.{Compiled, round_of}
use Rattle.compiling.specs.Emit.{Coloured, emitted, emitted_by}
use Rattle.histories.specs.Histories.{Playable}
use Rattle.histories.proofs.Playing.{finished_plays}
use Rattle.stages.proofs.emit.Goals as goal

pub invariant_of-result : goal.invariant_of-result
unfolding emitted
invariant_of-result c =
    let P : Compiled → Type 0 = λ x. Playable x in record {
      playable = ∥∥₁_map c.args.c.painted (λ t.
          let (m, ms, bs, w, grown, lawful, done, is) = t in
          subst P (sym (c.emit-draft.ensures ∙ ap (λ (x : Coloured). emitted_by x) is)) (finished_plays m ms bs (emitted w (round_of m w)) (w, grown, lawful, done, refl)));
    }
