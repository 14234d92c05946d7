-- The next round, from what the calls of one turn answered.
use Rattle.std.proofs.Common.{◌≡◌, ℕ, List, Ok, Result, sym, ap, ◌∙◌}
use Rattle.faults.specs.declared.ProgramFault.{ProgramFault}
use Rattle.rows.specs.Rows.{Program}
use Rattle.admission.specs.Admission.{admitting}
use Rattle.registers.specs.Model.{Model}
use Rattle.rounds.specs.Round.{Outcome}
use Rattle.compiling.specs.Working.{Working, Compiled}
use Rattle.compiling.specs.Rewrite.{Ticket, ticket, rewritten_by, rewritten}
use Rattle.compiling.specs.Emit.{Coloured, coloured, emitted_by, emitted}
use Rattle.compiling.specs.Compile.{compile, compile_with, compiled_by}
use Rattle.drafts.specs.declared.token.Token.{Token}
use Rattle.drafts.specs.Drafts.{ticket_of}
use Rattle.stages.specs.declared.Record.{Record}
use Rattle.stages.specs.Stages.{working_in, coloured_in}

pub rewrites : (was held : Record) (t t' : Token) (new : Working) (o : Outcome) → held ≡ was → t' ≡ t →
    ticket_of t (working_in was) ≡ ticket (working_in was) o → new ≡ rewritten_by (ticket_of t' (working_in held)) (working_in held) → new ≡ rewritten (working_in was) o
unfolding rewritten
rewrites was held t t' new o a b is e = (rw (a, b) at e) ∙ ap (λ (x : Ticket). rewritten_by x (working_in was)) is

pub emits : (w : Working) (r r' : Record) (new : Compiled) (o : Outcome) → r' ≡ r → coloured_in r ≡ coloured w o → new ≡ emitted_by (coloured_in r') → new ≡ emitted w o
unfolding emitted
emits w r r' new o a is e = (rw a at e) ∙ ap (λ (x : Coloured). emitted_by x) is

-- what compile answers by what admission answered
pub by_admission : (m : Model) (bs : List ℕ) (r : Result Program ProgramFault) (c : Compiled) → r ≡ admitting bs → compile m bs ≡ Ok c → Ok c ≡ compiled_by (λ _. m) r
unfolding compile compile_with
by_admission m bs r c a e = sym e ∙ ap (λ (x : Result Program ProgramFault). compiled_by (λ _. m) x) (sym a)
