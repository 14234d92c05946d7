use Rattle.std.proofs.Common.{◌≡◌, length, ap, ◌∙◌, rules}
use Rattle.compiling.specs.Compile.{compiled_by, compile_with, compile}
use Rattle.answers.proofs.Judged.{answered_result}
use Rattle.answers.proofs.Memory.compile.Goals as goal

pub returns : goal.returns
unfolding compile compile_with
returns g c =
    let one : length c.args.self.now.sets ≡ 512 = search rules in
    let two : length c.args.self.now.edges ≡ 448 = search rules in
    let three : length c.args.self.now.hard ≡ 448 = search rules in
    record {
      compiled = c.compile.ensures.answer ∙ ap (compiled_by (λ _. g.F.RegisterFile.model c.args.chip.now)) (answered_result _ _ one two three);
      refused = c.compile.ensures.refused;
    }
