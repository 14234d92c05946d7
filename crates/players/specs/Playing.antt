-- What the players of the code mean.
use Rattle.std.specs.Prelude.{◌≡◌, ℕ, zero, suc, ◌%◌, ◌^◌, ◌<◌, ◌≤◌, true, false, cond, ◌&&◌, ◌⊎◌, List, length, take, drop, Some, None, Ok, Err, Option, Result, slice_index}
use Rattle.faults.specs.declared.PlayerFault.{PlayerFault}
use Rattle.faults.specs.declared.PlayerFault.TheVariants.{Input as InputFault}
use Rattle.rows.specs.declared.Row.{Row}
use Rattle.rows.specs.Rows.{shape, row_at}
use Rattle.registers.specs.Model.{Model}
use Rattle.machine.specs.declared.Outcome.{Outcome}
use Rattle.machine.specs.Machine.{is_running, Shared, Meaning, Effect}
use Rattle.machine.specs.Players.{Player as Standing, stepped, Steps}
use Rattle.players.specs.declared.Input.{Input}
use Rattle.players.specs.declared.Tape.{Tape}
use Rattle.players.specs.declared.Player.{Player}
use Rattle.players.specs.declared.SourcePlayer.{SourcePlayer}
use Rattle.players.specs.declared.CodePlayer.{CodePlayer}
use Rattle.players.specs.declared.Turn.{Turn}

-- the number at each place, 0 past the last
abbrev pub numbers_in : List ℕ → ℕ → ℕ
numbers_in xs i = slice_index xs i

-- the numbers of an input
abbrev pub input_of : Input → List ℕ
input_of i = take i.count i.numbers

-- the numbers that were put out
abbrev pub output_of : Tape → List ℕ
output_of t = take t.put t.output

-- an input of at most 256 numbers, or the fault
abbrev pub Holds : List ℕ → Result Input PlayerFault → Type 0
Holds xs (Ok i) = (length xs ≤ 256) × (input_of i ≡ xs)
Holds xs (Err e) = (256 < length xs) × (e ≡ InputFault)

-- what a player has beside its numbers, given its slots
abbrev pub shared_of : Tape → (ℕ → ℕ) → Shared
shared_of t slots = record { slots = slots; input = drop t.taken (input_of t.input); output = output_of t; outcome = t.outcome }

-- the rows of a player
abbrev pub rows_of : Player → List Row
rows_of p = take p.count p.rows

abbrev pub player_of : Player → (numbers slots : ℕ → ℕ) → Standing
player_of p numbers slots = record { row = p.row; numbers = numbers; shared = shared_of p.tape slots }

-- the source player; it has no slots
abbrev pub source_of : SourcePlayer → Standing
source_of s = player_of s.player (numbers_in s.variables) (λ _. 0)

-- the code player, whose numbers are those of the bank
abbrev pub code_of : {B : Type 0} → (B → ℕ → ℕ) → CodePlayer B → Standing
code_of contents c = player_of c.player (contents c.bank) (numbers_in c.slots)

-- an answer in a word: its number modulo 2 ^ 32
abbrev pub in_word : Result ℕ Outcome → Result ℕ Outcome
in_word (Ok v) = Ok (v % 2 ^ 32)
in_word (Err outcome) = Err outcome

-- a meaning, with its answer in a word, and what is shared afterwards
pub record Means (m : Meaning) (given : Result ℕ Outcome) (after : Shared) : Type 0 where
  pub answer : given ≡ in_word m.answer
  pub shared : after ≡ m.shared

-- an effect, by what is shared afterwards; a player that rests, or that the row has ended, has no turn
abbrev pub effect_of : Option Turn → Shared → Effect
effect_of (Some t) after = record { shared = after; ran = true; value = t.value; jumped = t.jumped }
effect_of None after = record { shared = after; ran = false; value = 0; jumped = false }

-- where the effect of a row leads from row i
abbrev pub leads : Row → Effect → ℕ → ℕ
leads r e i = cond e.ran (cond e.jumped r.target (suc i)) i

-- n rows asked for, k of them played by a step each: an ended player plays none
abbrev pub Plays : {P : Type 0} → (P → Outcome) → (P → P → Type 0) → (p : P) (n k : ℕ) (q : P) → Type 0
Plays outcome Step p zero k q = (k ≡ 0) × (q ≡ p)
Plays {P = P} outcome Step p (suc n) k q =
    ((is_running (outcome p) ≡ false) × (k ≡ 0) × (q ≡ p))
    ⊎ ((is_running (outcome p) ≡ true) × ((x : P) × (j : ℕ) × Step p x × Plays outcome Step x n j q × (k ≡ suc j)))

-- p becomes q by the effect of a row, with the number for d if it writes one
pub record Turned (r : Row) (e : Effect) (p q : Player) (slots : ℕ → ℕ) (answer : Option ℕ) : Type 0 where
  pub rows : rows_of q ≡ rows_of p
  pub row : q.row ≡ leads r e p.row
  pub shared : shared_of q.tape slots ≡ e.shared
  pub number : answer ≡ cond ((shape r.op).d && e.ran) (Some e.value) None

-- a row of the source player
pub record SourceStep (p q : SourcePlayer) : Type 0 where
  pub rows : rows_of q.player ≡ rows_of p.player
  pub steps : source_of q ≡ stepped (row_at (rows_of p.player)) (source_of p)

-- a row of the code player, by the register file of its bank and the numbers that this holds
pub record CodeStep {B : Type 0} (model : B → Model) (contents : B → ℕ → ℕ) (p q : CodePlayer B) : Type 0 where
  pub rows : rows_of q.player ≡ rows_of p.player
  pub file : model q.bank ≡ model p.bank
  pub steps : Steps (model p.bank) (row_at (rows_of p.player)) (code_of contents p) (code_of contents q)
