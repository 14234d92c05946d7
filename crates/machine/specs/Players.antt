-- Players: the source player over variables, the code player over the registers of any bank.
use Rattle.std.specs.Prelude.{◌≡◌, ℕ, zero, suc, Bool, true, false, cond, ◌&&◌, ◌⊎◌, List, []}
use Rattle.rows.specs.declared.Row.{Row}
use Rattle.rows.specs.Rows.{shape}
use Rattle.registers.specs.Model.{Model, Written}
use Rattle.machine.specs.declared.Outcome.TheVariants.{Running}
use Rattle.machine.specs.Machine.{is_running, Shared, put, Effect, effect}

-- a player: the row it stands at, the number of each variable or register, the rest
pub record Player : Type 0 where
  pub row : ℕ
  pub numbers : ℕ → ℕ
  pub shared : Shared

-- a player at row 0, running, with an input and no output
abbrev pub fresh : (numbers slots : ℕ → ℕ) → List ℕ → Player
fresh numbers slots input = record { row = 0; numbers = numbers; shared = record { slots = slots; input = input; output = []; outcome = Running } }

-- whether a player has not ended
abbrev pub running : Player → Bool
running p = is_running p.shared.outcome

-- the effect of the row at which a player stands; w is the row at each place
abbrev pub at : (ℕ → Row) → Player → Effect
at w p = effect (w p.row) (p.numbers (w p.row).a) (p.numbers (w p.row).b) p.shared

-- whether that row writes its d
abbrev pub writes_now : (ℕ → Row) → Player → Bool
writes_now w p = (shape (w p.row).op).d && (at w p).ran

-- the row at which the player stands afterwards; an ended one stays at the row that ended it
abbrev pub next_row : (ℕ → Row) → Player → ℕ
next_row w p = cond (at w p).ran (cond (at w p).jumped (w p.row).target (suc p.row)) p.row

-- one row of the source player: a write changes one variable
unfoldable pub stepped : (ℕ → Row) → Player → Player
unfolding effect
stepped w p =
    let e = at w p in
    record {
      row = next_row w p;
      numbers = cond (writes_now w p) (put p.numbers (w p.row).d e.value) p.numbers;
      shared = e.shared;
    }

-- at most n rows of the source player
unfoldable pub run : (ℕ → Row) → Player → ℕ → Player
unfolding stepped
run w p zero = p
run w p (suc n) =
    let more = run w (stepped w p) n in
    cond (running p) more p

-- how many of n rows the source player plays: an ended player plays none
unfoldable pub rows_played : (ℕ → Row) → Player → ℕ → ℕ
unfolding stepped
rows_played w p zero = 0
rows_played w p (suc n) =
    let more = suc (rows_played w (stepped w p) n) in
    cond (running p) more 0

-- one row of the code player, on a bank that answers as m: a write may change every register that overlaps the written one
pub record Steps (m : Model) (w : ℕ → Row) (c e : Player) : Type 0 where
  pub row : e.row ≡ next_row w c
  pub shared : e.shared ≡ (at w c).shared
  pub kept : writes_now w c ≡ false → e.numbers ≡ c.numbers
  pub written : writes_now w c ≡ true → Written m (w c.row).d (at w c).value c.numbers e.numbers

-- n rows of the code player asked for, k of them played: an ended player plays none
abbrev pub Runs : Model → (ℕ → Row) → Player → (n k : ℕ) → Player → Type 0
Runs m w c zero k e = (k ≡ 0) × (e ≡ c)
Runs m w c (suc n) k e =
    ((running c ≡ false) × (k ≡ 0) × (e ≡ c))
    ⊎ ((running c ≡ true) × ((x : Player) × (j : ℕ) × Steps m w c x × Runs m w x n j e × (k ≡ suc j)))
