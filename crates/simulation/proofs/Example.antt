-- The static record is met by a small program whose only variable stands in a slot: const v0 5; output v0; end.
use Rattle.std.proofs.Common.{◌≡◌, ℕ, zero, suc, ◌+◌, ◌*◌, ◌<◌, Bool, true, false, eqb, List, [], ◌∷◌, map, length, refl, inr, arith}
use Rattle.std.proofs.lemmas.Bool.{eqb-true, false≢true, true≢false}
use Rattle.rows.specs.declared.Op.{Op}
use Rattle.rows.specs.declared.Op.TheVariants.{End, Const, Output, Load, Store}
use Rattle.rows.specs.declared.Row.{Row}
use Rattle.rows.specs.Rows.{shape, copies, Program, row_at}
use Rattle.registers.specs.Model.{Model, Lawful}
use Rattle.compiling.specs.declared.Home.TheVariants.{Slot}
use Rattle.compiling.specs.declared.Place.{Place}
use Rattle.compiling.specs.Working.{Working, Compiled, spilled}
use Rattle.compiling.specs.Blocks.{assembled}
use Rattle.compiling.specs.Emit.{code_block}
use Rattle.simulation.specs.Static.{row_of, slot_of, Sound, Lively, Stands, Static}

abbrev row : Op → (d a constant : ℕ) → Row
row o d a constant = record { op = o; weight = 0; dclass = 0; aclass = 0; d = d; a = a; b = 0; target = 0; constant = constant; slot = 0 }

abbrev program : Program
program = record { vars = 1; classes = 0 ∷ []; rows = row Const 0 0 5 ∷ row Output 0 0 0 ∷ row End 0 0 0 ∷ [] }

abbrev work : List Row
work = row Const 1 0 5 ∷ row Store 0 1 0 ∷ row Load 2 0 0 ∷ row Output 0 2 0 ∷ row End 0 0 0 ∷ []

abbrev places : List Place
places = record { home = Slot 0; round = 1; hoped = false } ∷ []

abbrev last : Working
last = record { source = program; rows = work; classes = 0 ∷ 0 ∷ 0 ∷ []; rounds = 1; slots = 1; places = places }

abbrev compiled : Compiled
compiled = record { source = program; rows = assembled (map (code_block (λ _. 0)) work); rounds = 2; slots = 1; places = places }

abbrev live : ℕ → ℕ → Bool
live zero v = false
live (suc zero) v = eqb v 0
live (suc (suc i)) v = false

abbrev live_last : ℕ → ℕ → Bool
live_last zero v = false
live_last (suc zero) v = eqb v 1
live_last (suc (suc zero)) v = false
live_last (suc (suc (suc zero))) v = eqb v 2
live_last (suc (suc (suc (suc i)))) v = false

below : (i : ℕ) → i < length program.rows → (shape (row_of program i).op).falls ≡ true → suc i < length program.rows
below zero h f = omega arith
below (suc zero) h f = omega arith
below (suc (suc zero)) h f = absurd (false≢true f)
below (suc (suc (suc i))) h f = absurd (omega arith)

zeroes : (i : ℕ) → ((row_of program i).a ≡ 0) × ((row_of program i).d ≡ 0) × ((row_of program i).dclass ≡ 0) × ((shape (row_of program i).op).b ≡ false) × ((shape (row_of program i).op).target ≡ false) × ((shape (row_of program i).op).slot ≡ false) × (copies (row_of program i).op ≡ false)
zeroes zero = (refl, refl, refl, refl, refl, refl, refl)
zeroes (suc zero) = (refl, refl, refl, refl, refl, refl, refl)
zeroes (suc (suc zero)) = (refl, refl, refl, refl, refl, refl, refl)
zeroes (suc (suc (suc i))) = (refl, refl, refl, refl, refl, refl, refl)

sound : Sound program
sound = record {
  some = omega arith;
  most = omega arith;
  below = below;
  target = λ i h e. absurd (false≢true (rw (zeroes i).4 at e));
  var_a = λ i _. omega (arith, (zeroes i).0);
  var_b = λ i e. absurd (false≢true (rw (zeroes i).3 at e));
  var_d = λ i _. omega (arith, (zeroes i).1);
  class_d = λ i _. rw ((zeroes i).1, (zeroes i).2) refl;
  class_a = λ i _. rw ((zeroes i).0, (zeroes i).2) refl;
  plain = λ i. (zeroes i).5;
}

lively_a : (i : ℕ) → (shape (row_of program i).op).a ≡ true → live i (row_of program i).a ≡ true
lively_a zero e = absurd (false≢true e)
lively_a (suc zero) e = refl
lively_a (suc (suc zero)) e = absurd (false≢true e)
lively_a (suc (suc (suc i))) e = absurd (false≢true e)

lively_on : (i v : ℕ) → (shape (row_of program i).op).falls ≡ true → live (suc i) v ≡ true → ((shape (row_of program i).op).d ≡ true → v ≡ (row_of program i).d → ⊥) → live i v ≡ true
lively_on zero v f l n = absurd (n refl (eqb-true v 0 l))
lively_on (suc i) v f l n = absurd (false≢true l)

lively : Lively (row_of program) live
lively = record {
  reads_a = lively_a;
  reads_b = λ i e. absurd (false≢true (rw (zeroes i).3 at e));
  below = lively_on;
  target = λ i v e. absurd (false≢true (rw (zeroes i).4 at e));
}

shares_alone : (i v : ℕ) → live (suc i) v ≡ true → (v ≡ (row_of program i).d → ⊥) → ⊥
shares_alone zero v l n = n (eqb-true v 0 l)
shares_alone (suc i) v l n = false≢true l

load_there : (k : ℕ) → k < 1 → (row_at work (2 + k)).op ≡ Load
load_there zero h = refl
load_there (suc k) h = absurd (omega arith)

load_new : (k : ℕ) → k < 1 → (row_at work (2 + k)).d ≡ 2
load_new zero h = refl
load_new (suc k) h = absurd (omega arith)

stands : (i : ℕ) → i < length program.rows → Stands program places (row_at work) (λ j. 2 * j) i
stands zero h = inr (
  0,
  record {
    few = omega arith;
    loads = record { load = λ k b. absurd (omega arith); temporary = λ k b. absurd (omega arith); twice = λ j k a b. absurd (omega arith) };
    op = refl;
    dclass = refl;
    constant = refl;
    target = λ e. absurd (false≢true e);
    a = λ e. absurd (false≢true e);
    b = λ e. absurd (false≢true e);
    d = λ _. inr (refl, omega arith, refl, refl, refl, refl);
    none = λ e. absurd (true≢false e);
  },
)
stands (suc zero) h = inr (
  1,
  record {
    few = omega arith;
    loads = record { load = load_there; temporary = λ k b. omega (arith, load_new k b); twice = λ j k a b. absurd (omega arith) };
    op = refl;
    dclass = refl;
    constant = refl;
    target = λ e. absurd (false≢true e);
    a = λ _. inr (refl, (0, omega arith, refl, refl, refl));
    b = λ e. absurd (false≢true e);
    d = λ e. absurd (false≢true e);
    none = λ _ _. refl;
  },
)
stands (suc (suc zero)) h = inr (
  0,
  record {
    few = omega arith;
    loads = record { load = λ k b. absurd (omega arith); temporary = λ k b. absurd (omega arith); twice = λ j k a b. absurd (omega arith) };
    op = refl;
    dclass = refl;
    constant = refl;
    target = λ e. absurd (false≢true e);
    a = λ e. absurd (false≢true e);
    b = λ e. absurd (false≢true e);
    d = λ e. absurd (false≢true e);
    none = λ _ e. absurd (false≢true e);
  },
)
stands (suc (suc (suc i))) h = absurd (omega arith)

last_a : (i : ℕ) → (shape (row_at work i).op).a ≡ true → live_last i (row_at work i).a ≡ true
last_a zero e = absurd (false≢true e)
last_a (suc zero) e = refl
last_a (suc (suc zero)) e = absurd (false≢true e)
last_a (suc (suc (suc zero))) e = refl
last_a (suc (suc (suc (suc zero)))) e = absurd (false≢true e)
last_a (suc (suc (suc (suc (suc i))))) e = absurd (false≢true e)

last_off : (i : ℕ) → ((shape (row_at work i).op).b ≡ false) × ((shape (row_at work i).op).target ≡ false) × ((row_at work i).dclass ≡ 0)
last_off zero = (refl, refl, refl)
last_off (suc zero) = (refl, refl, refl)
last_off (suc (suc zero)) = (refl, refl, refl)
last_off (suc (suc (suc zero))) = (refl, refl, refl)
last_off (suc (suc (suc (suc zero)))) = (refl, refl, refl)
last_off (suc (suc (suc (suc (suc i))))) = (refl, refl, refl)

-- what is live after a row is what the row writes
last_new : (i v : ℕ) → live_last (suc i) v ≡ true → ((shape (row_at work i).op).d ≡ true) × (v ≡ (row_at work i).d)
last_new zero v l = (refl, eqb-true v 1 l)
last_new (suc zero) v l = absurd (false≢true l)
last_new (suc (suc zero)) v l = (refl, eqb-true v 2 l)
last_new (suc (suc (suc i))) v l = absurd (false≢true l)

few : (v : ℕ) → v < program.vars → spilled places v ≡ true → slot_of places v < 64
few zero b e = omega arith
few (suc v) b e = absurd (omega arith)

-- for every lawful file whose register 0 is of class 0
pub met : (file : Model) → Lawful file → file.belongs 0 0 ≡ true → Static compiled file
met file lawful given = record {
  last = last;
  reg = λ _. 0;
  live = live;
  live_last = live_last;
  start = λ j. 2 * j;
  lawful = lawful;
  sound = sound;
  lively = lively;
  entry = λ v. refl;
  shares = record {
    alone = λ i v _ _ l n _ _. absurd (shares_alone i v l n);
    few = few;
  };
  first = refl;
  stands = stands;
  lively_last = record {
    reads_a = last_a;
    reads_b = λ i e. absurd (false≢true (rw (last_off i).0 at e));
    below = λ i v _ l n. absurd (let q = last_new i v l in n q.0 q.1);
    target = λ i v e. absurd (false≢true (rw (last_off i).1 at e));
  };
  apart = record {
    apart = λ i v _ l n. absurd (n (last_new i v l).1);
    belongs = λ i _. rw (last_off i).2 given;
  };
  targets = λ i e. absurd (false≢true (rw (last_off i).1 at e));
  code = refl;
}
