-- Agreement: what a compiled program promises of every rehearsal.
use Rattle.std.specs.Prelude.{◌≡◌, ℕ, ◌*◌, ◌≤◌, false, ◌⊎◌, List, ◌++◌, Ok}
use Rattle.registers.specs.Model.{Model, Lawful}
use Rattle.compiling.specs.Working.{Compiled}
use Rattle.compiling.specs.Compile.{compile_with}
use Rattle.machine.specs.Players.{Player, running}
use Rattle.machine.specs.Rehearsal.{Rehearsal, opened, Event, Rehearsed, Counts, no_counts, tally}

-- one output begins another
abbrev pub Begins : (xs ys : List ℕ) → Type 0
Begins xs ys = (zs : List ℕ) × (ys ≡ xs ++ zs)

-- both sides ended alike: with the same outcome and equal outputs
pub record Alike (p c : Player) : Type 0 where
  pub source_ended : running p ≡ false
  pub code_ended : running c ≡ false
  pub outcomes : p.shared.outcome ≡ c.shared.outcome
  pub outputs : p.shared.output ≡ c.shared.output

-- both sides of a rehearsal agree, given the rows asked for and played
pub record Agrees (t : Rehearsal) (k : Counts) : Type 0 where
  pub outputs : Begins t.source.shared.output t.code.shared.output ⊎ Begins t.code.shared.output t.source.shared.output
  pub by_source : running t.source ≡ false → 4 * k.source_played ≤ k.code_asked → Alike t.source t.code
  pub by_code : running t.code ≡ false → 128 * k.code_played ≤ k.source_asked → Alike t.source t.code

-- a bank gives the answers of a file
pub record SameAnswers (bank file : Model) : Type 0 where
  pub count : bank.count ≡ file.count
  pub belongs : (r c : ℕ) → bank.belongs r c ≡ file.belongs r c
  pub overlaps : (r s : ℕ) → bank.overlaps r s ≡ file.overlaps r s
  pub width : (r : ℕ) → bank.width r ≡ file.width r

-- a compiled program agrees with its source in every rehearsal on every bank of its file, whatever registers and slots hold
abbrev pub Agreeing : Compiled → Model → Type 0
Agreeing c file =
    (bank : Model) → SameAnswers bank file → (numbers slots : ℕ → ℕ) (es : List Event) (t : Rehearsal) →
    Rehearsed bank es (opened c numbers slots) t → Agrees t (tally no_counts es)

-- the promise: every file that compiles, with lawful register files in all rounds, agrees for the file of its last round
abbrev pub Agreement : Type 0
Agreement =
    (files : ℕ → Model) → ((i : ℕ) → Lawful (files i)) → (bs : List ℕ) (c : Compiled) → compile_with files bs ≡ Ok c →
    Agreeing c (files c.rounds)
