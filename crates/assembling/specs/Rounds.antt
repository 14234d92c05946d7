-- How many rounds a program takes, and what is spilled.
use Rattle.std.specs.Prelude.{◌≡◌, ℕ, zero, suc, ◌<◌, ◌≤◌, Bool, true, false, not, List}
use Rattle.counting.specs.Counting.{count}
use Rattle.rows.specs.Rows.{Program}
use Rattle.registers.specs.Model.{Model}
use Rattle.rounds.specs.Round.{Outcome, colours}
use Rattle.compiling.specs.declared.Place.{Place}
use Rattle.compiling.specs.Working.{Working, Compiled, place_of, spilled, admitted, round_of}
use Rattle.compiling.specs.Rewrite.{rewritten}
use Rattle.compiling.specs.Emit.{emitted}
use Rattle.compiling.specs.Compile.{compiling}
use Rattle.assembling.specs.Assembling.{InOrder}

-- the next round of a working program, with the file that is its turn
abbrev pub turn : (ℕ → Model) → Working → Outcome
turn files w = round_of (files (suc w.rounds)) w

-- how many source variables are not spilled
abbrev pub unplaced : Working → ℕ
unplaced w = count (λ v. not (spilled w.places v)) w.source.vars

-- whatever stands in a slot was hoped for
abbrev pub Hoped : List Place → Type 0
Hoped places = (v : ℕ) → spilled places v ≡ true → (place_of places v).hoped ≡ true

-- what holds of working programs: rounds that do not colour keep it, and under it every round finds its program in order
pub record Carried (files : ℕ → Model) (P : Working → Type 0) : Type 0 where
  pub kept : (w : Working) → P w → colours (turn files w) ≡ false → P (rewritten w (turn files w))
  pub ordered : (w : Working) → P w → InOrder (files (suc w.rounds)) w

-- program p ends as c: emitted after a round that colours, of a working program with P, at most one round more than variables, and nothing in a slot but what was hoped for
pub record Ends (files : ℕ → Model) (P : Working → Type 0) (p : Program) (c : Compiled) : Type 0 where
  pub last : Working
  pub has_P : P last
  pub source : last.source ≡ p
  pub done : colours (turn files last) ≡ true
  pub code : c ≡ emitted last (turn files last)
  pub few : c.rounds ≤ suc p.vars
  pub hoped : Hoped c.places

-- a working program after k rewritings
unfoldable pub worked : (ℕ → Model) → ℕ → Working → Working
unfolding round_of rewritten
worked files zero w = w
worked files (suc k) w = let before = worked files k w in rewritten before (turn files before)

-- a working program that compiling p comes to: the rounds before it did not colour
abbrev pub Reached : (ℕ → Model) → Program → Working → Type 0
Reached files p w = (k : ℕ) × (w ≡ worked files k (admitted p)) × ((j : ℕ) → j < k → colours (turn files (worked files j (admitted p))) ≡ false)

-- if every round finds its program in order, one colours, at most one round more than variables
abbrev pub FewRounds : Type 0
FewRounds = (files : ℕ → Model) (p : Program) → ((w : Working) → Reached files p w → InOrder (files (suc w.rounds)) w) → Ends files (Reached files p) p (compiling files p)
