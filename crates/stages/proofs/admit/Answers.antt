use Rattle.std.proofs.Common.{◌≡◌, ℕ, Ok, sym, ap, ◌∙◌, subst, arith, rules}
use Rattle.std.proofs.lemmas.Result.{err_from_is_err_and}
use Rattle.rows.specs.Rows.{Program}
use Rattle.source.specs.Results.{program_of}
use Rattle.admission.specs.Memory.{Answer, parts, answered}
use Rattle.paths.proofs.Outcomes.{admission_by_paths}
use Rattle.compiling.specs.Working.{Working, admitted}
use Rattle.histories.specs.Histories.{HasGrown}
use Rattle.histories.proofs.Merely.{first_grown}
use Rattle.stages.proofs.Memory.{admits_in}
use Rattle.stages.proofs.admit.Goals as goal

pub invariant_of-p : goal.invariant_of-p
invariant_of-p c =
    let bs = c.args.file.now in
    let m = parts c.args.first.now c.args.second.now c.args.third.now in
    let p = program_of c.in_ok-source.source in
    let r : (answered bs m).result ≡ Ok p = sym (ap (λ (a : Answer). a.result) c.in_ok-source.ensures) in
    let P : Working → Type 0 = λ w. HasGrown w in
    (subst P (sym c.of.ensures) (first_grown bs p (admits_in bs m p r).admits), tt)

pub returns-in_err-source : goal.returns-in_err-source
returns-in_err-source c =
    let p = err_from_is_err_and c.from_residual.result c.from_residual.ensures.1 in
    record {
      answer = search rules;
      fresh = λ h. absurd (let e = p.1 in let z : ◌≡◌ {A = ℕ} 0 1 = cc in omega arith);
      refused = search rules;
      same = search rules;
      paths = admission_by_paths c.args.file.now;
    }

pub returns : goal.returns
returns c =
    let s : program_of c.of.result.source ≡ program_of c.in_ok-source.source = ap (λ (w : Working). w.source) c.of.ensures in
    record {
      answer = rw s c.in_ok-source.ensures;
      fresh = λ h. c.of.ensures ∙ ap (λ (q : Program). admitted q) (sym s);
      refused = search rules;
      same = search rules;
      paths = admission_by_paths c.args.file.now;
    }
