use Rattle.std.proofs.Common.{◌≡◌, ◌<◌, true, false, length, take, sym, ap, ◌∙◌, arith}
use Rattle.sets.specs.Words.{members}
use Rattle.rounds.specs.Round.{Outcome}
use Rattle.compiling.specs.Working.{round_of}
use Rattle.graphs.specs.Graphs.{classes_of}
use Rattle.drafts.specs.Drafts.{working_of, Shows}
use Rattle.stages.proofs.Turning.{shown, small, flag}
use Rattle.stages.proofs.take_turn.Goals as goal

pub returns-then-is_empty : goal.returns-then-is_empty
returns-then-is_empty g c =
    let m = g.F.RegisterFile.model c.args.file.now in
    let d = c.args.draft.now in
    let o : Outcome = round_of m (working_of d) in
    let s : c.of-variables.result.source ≡ d.source.vars = omega (arith, c.of-variables.ensures.0, d.source.few) in
    let classes : classes_of c.of-variables.result ≡ d.classes = c.of-variables.ensures.1 ∙ ap (λ n. take n c.padded.result) c.len.ensures.count ∙ c.padded.ensures in
    let h : Shows (length d.classes) c.allocate-end.result o = shown m d c.of-variables.result (members c.unspilled.result) c.rows.result.now c.allocate-end.result s classes c.unspilled.ensures c.rows.ensures c.allocate-end.ensures.shows in
    let few : d.rounds < 255 = omega (arith, c.requires.fits.rounds, c.requires.fits.vars) in
    record {
      turned = (sym (flag (length d.classes) c.allocate-end.result o true h c.if-is_empty.ensures), c.colour.ensures o h c.requires.nodes few);
      memory = c.allocate-end.ensures.memory;
    }

pub returns-else-is_empty : goal.returns-else-is_empty
returns-else-is_empty g c =
    let m = g.F.RegisterFile.model c.args.file.now in
    let d = c.args.draft.now in
    let o : Outcome = round_of m (working_of d) in
    let s : c.of-variables.result.source ≡ d.source.vars = omega (arith, c.of-variables.ensures.0, d.source.few) in
    let classes : classes_of c.of-variables.result ≡ d.classes = c.of-variables.ensures.1 ∙ ap (λ n. take n c.padded.result) c.len.ensures.count ∙ c.padded.ensures in
    let h : Shows (length d.classes) c.allocate-end.result o = shown m d c.of-variables.result (members c.unspilled.result) c.rows.result.now c.allocate-end.result s classes c.unspilled.ensures c.rows.ensures c.allocate-end.ensures.shows in
    record {
      turned = (sym (flag (length d.classes) c.allocate-end.result o false h c.if-is_empty.ensures), c.spill.ensures o h (small m (working_of d) c.requires));
      memory = c.allocate-end.ensures.memory;
    }
