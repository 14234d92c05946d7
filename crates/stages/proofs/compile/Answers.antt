use Rattle.std.proofs.Common.{◌≡◌, ℕ, replicate, Ok, sym, refl, ap, ◌∙◌, arith}
use Rattle.admission.specs.Memory.{Parts, Answer, parts, emptied, answered}
use Rattle.compiling.specs.Working.{Compiled}
use Rattle.allocation.specs.Allocation.{afterwards}
use Rattle.histories.proofs.Turning.{histories_compile, finished_agrees}
use Rattle.stages.specs.declared.Record.{Record}
use Rattle.stages.specs.Stages.{program_in, compiled_in}
use Rattle.stages.proofs.Memory.{admits_in, after_admission}
use Rattle.stages.proofs.Finishing.{by_admission}
use Rattle.stages.proofs.compile.Goals as goal

pub returns : goal.returns
returns g c =
    let file = g.F.RegisterFile.model c.args.chip.now in
    let bs = c.args.file.now in
    let m = parts c.args.first.now c.args.second.now c.args.third.now in
    let p = program_in c.admit.new.p.record.now in
    let told = c.in_ok-admit.ensures in
    let result : (answered bs m).result ≡ Ok p = sym (ap (λ (a : Answer). a.result) told.answer) in
    let ok = admits_in bs m p result in
    let left : parts c.admit.new.first c.admit.new.second c.admit.new.third ≡ emptied m = ap (λ (a : Answer). a.memory) told.answer ∙ ok.memory in
    let (k, finished) = c.finish-c.ensures.done 0 bs (p, ok.admits, told.fresh refl) in
    let code = compiled_in c.finish-c.result.record.now in
    let one = histories_compile.one file (replicate k file) bs code (histories_compile.same file k) finished in
    let is : compiled_in c.close-p.result ≡ code = ap (λ (r : Record). compiled_in r) c.close-p.ensures in
    record {
      answer = ap (λ (x : Compiled). Ok x) is ∙ by_admission file bs (answered bs m).result code (result ∙ sym ok.admits) one;
      memory = c.finish-c.ensures.memory ∙ ap (λ (x : Parts). afterwards x) left ∙ after_admission m ok.whole ∙ sym ok.memory;
      prompt = λ e. rw is (finished_agrees file (replicate k file) bs code finished).1;
      refused = λ e h. absurd (let z : ◌≡◌ {A = ℕ} 0 1 = cc in omega arith);
      same = refl;
    }
