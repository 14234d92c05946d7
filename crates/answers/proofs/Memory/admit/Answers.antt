use Rattle.std.proofs.Common.{◌≡◌, length, ap, ◌∙◌, rules}
use Rattle.admission.specs.Memory.{Answer}
use Rattle.answers.proofs.Judged.{answered_result}
use Rattle.answers.proofs.Memory.admit.Goals as goal

pub returns : goal.returns
returns c =
    let one : length c.args.self.now.sets ≡ 512 = search rules in
    let two : length c.args.self.now.edges ≡ 448 = search rules in
    let three : length c.args.self.now.hard ≡ 448 = search rules in
    record { admitted = ap (λ (a : Answer). a.result) c.admit.ensures.answer ∙ answered_result _ _ one two three; refused = c.admit.ensures.refused }
