-- A round of a draft is the round of its working program.
use Rattle.std.proofs.Common.{◌≡◌, ℕ, ◌≤◌, Bool, true, false, eqb, List, length, sym, refl, ap, ◌∙◌, arith}
use Rattle.std.proofs.lemmas.List.{length-take-le}
use Rattle.std.proofs.lemmas.Bool.{eqb-true}
use Rattle.counting.proofs.Sums.{count_none}
use Rattle.sets.specs.Sets.{has}
use Rattle.sets.specs.Words.{members}
use Rattle.sets.proofs.Members.{has_none}
use Rattle.rows.specs.declared.Row.{Row}
use Rattle.registers.specs.Model.{Model}
use Rattle.rounds.specs.Round.{Outcome, round, colours}
use Rattle.compiling.specs.Working.{Working, unspilled, round_of}
use Rattle.compiling.specs.Spill.{slots_after}
use Rattle.compiling.specs.Rewrite.{rewritten}
use Rattle.graphs.specs.declared.variables.Variables.{Variables}
use Rattle.graphs.specs.Graphs.{classes_of}
use Rattle.drafts.specs.declared.draft.Draft.{Draft}
use Rattle.drafts.specs.declared.token.Colouring.{Colouring}
use Rattle.drafts.specs.Drafts.{working_of, Shows}
use Rattle.rewriting.specs.Orders.{Small}
use Rattle.histories.specs.Histories.{Fitting}
use Rattle.stages.specs.Stages.{Ready}

-- variables made of a draft are as many as it has
counted : (d : Draft) (v : Variables) → classes_of v ≡ d.classes → v.count ≡ length d.classes
counted d v e = sym (length-take-le v.count v.classes (omega (arith, v.few.1, v.whole.0))) ∙ ap length e

same_round : (m : Model) (end : Colouring) (n n' s s' : ℕ) (cs cs' : List ℕ) (ns ns' : ℕ) (rs rs' : List Row) → n ≡ n' → s ≡ s' → cs ≡ cs' → ns ≡ ns' → rs ≡ rs' →
    Shows n end (round m s cs ns rs) → Shows n' end (round m s' cs' ns' rs')
same_round m end n n' s s' cs cs' ns ns' rs rs' a b c d e h = rw (a, b, c, d, e) at h

pub shown : (m : Model) (d : Draft) (v : Variables) (nodes : ℕ) (rows : List Row) (end : Colouring) →
    v.source ≡ d.source.vars → classes_of v ≡ d.classes → nodes ≡ unspilled (working_of d) → rows ≡ d.rows →
    Shows v.count end (round m v.source (classes_of v) nodes rows) → Shows (length d.classes) end (round_of m (working_of d))
unfolding round_of
shown m d v nodes rows end s c n r h = same_round m end v.count (length d.classes) v.source d.source.vars (classes_of v) d.classes nodes (unspilled (working_of d)) rows d.rows (counted d v c) s c n r h

-- what a round that colours gives no slot to
none_given : (w : Working) (o : Outcome) → o.spilled ≡ 0 → slots_after w o ≡ w.slots
unfolding slots_after
none_given w o e = rw (e, count_none (has 0) (length w.classes) (λ k h. has_none k)) (omega arith)

given : (w : Working) (o : Outcome) → Fitting (rewritten w o) → slots_after w o ≤ 64
unfolding rewritten
given w o f = f.slots

-- slots stay few, whether the round colours or not
few_slots : (m : Model) (w : Working) → Ready m w → (b : Bool) → colours (round_of m w) ≡ b → slots_after w (round_of m w) ≤ 255
few_slots m w ready true e = omega (arith, none_given w (round_of m w) (eqb-true (round_of m w).spilled 0 e), ready.fits.slots)
few_slots m w ready false e = omega (arith, given w (round_of m w) (ready.then e))

pub small : (m : Model) (w : Working) → Ready m w → Small w (round_of m w)
small m w ready = record { slots = few_slots m w ready (colours (round_of m w)) refl; inside = ready.nodes }

-- whether a round colours, by its spilled nodes
pub flag : (n : ℕ) (c : Colouring) (o : Outcome) (b : Bool) → Shows n c o → b ≡ eqb (members c.spilled) 0 → b ≡ colours o
flag n c o b h e = rw h.spilled at e
