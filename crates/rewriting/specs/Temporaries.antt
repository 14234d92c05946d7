-- The temporaries of a row, and its block by them.
use Rattle.std.specs.Prelude.{◌≡◌, ℕ, ◌+◌, cond, Some, None, Option, List, [], ◌∷◌, ◌++◌, length, take}
use Rattle.sets.specs.Sets.{has}
use Rattle.rows.specs.declared.Row.{Row}
use Rattle.rows.specs.Rows.{shape, used}
use Rattle.compiling.specs.Spill.{Order, slot_in}
use Rattle.compiling.specs.Rewrite.{load_row, store_row}
use Rattle.rewriting.specs.declared.page.Page.{Page}
use Rattle.rewriting.specs.declared.temporary.Temporary.{Temporary}
use Rattle.rewriting.specs.declared.temporary.Temporaries.{Temporaries}

-- the temporary for the variable that a field names, n being the next one: none where the field names none, or one that stays
unfoldable pub temporary : Order → (ℕ → ℕ) → Option ℕ → ℕ → Option Temporary
temporary s class None n = None
temporary s class (Some v) n = let t : Temporary = record { number = n; class = class v; slot = slot_in s v } in cond (has s.out v) (Some t) None

-- the class of a temporary, if there is one
abbrev pub noted : Option Temporary → List ℕ
noted None = []
noted (Some t) = t.class ∷ []

-- the classes of the temporaries of a row
abbrev pub all_noted : Temporaries → List ℕ
all_noted t = noted t.a ++ (noted t.b ++ noted t.d)

-- the temporaries of a row, n being the next one
unfoldable pub temporaries : Order → (ℕ → ℕ) → ℕ → Row → Temporaries
unfolding temporary
temporaries s class n r =
    let a = temporary s class (used (shape r.op).a r.a) n in
    let b = temporary s class (used (shape r.op).b r.b) (n + length (noted a)) in
    record { a = a; b = b; d = temporary s class (used (shape r.op).d r.d) (n + length (noted a) + length (noted b)) }

-- the load before a row that reads what a temporary stands for
abbrev pub loaded : ℕ → Option Temporary → List Row
loaded weight None = []
loaded weight (Some t) = load_row weight t.class t.number t.slot ∷ []

-- the store behind a row that writes what a temporary stands for
abbrev pub stored : ℕ → Option Temporary → List Row
stored weight None = []
stored weight (Some t) = store_row weight t.class t.number t.slot ∷ []

-- the name of v in the row itself
abbrev pub name_by : ℕ → Option Temporary → ℕ
name_by v None = v
name_by v (Some t) = t.number

-- a row with its temporaries in the place of variables
abbrev pub renamed : Temporaries → Row → Row
renamed t r = record {
  op = r.op;
  weight = r.weight;
  dclass = r.dclass;
  aclass = r.aclass;
  d = name_by r.d t.d;
  a = name_by r.a t.a;
  b = name_by r.b t.b;
  target = r.target;
  constant = r.constant;
  slot = r.slot;
}

-- the rows of a block that is not empty
abbrev pub rows_with : Temporaries → Row → List Row
rows_with t r = loaded r.weight t.a ++ (loaded r.weight t.b ++ (renamed t r ∷ stored r.weight t.d))

-- a page with more classes noted
pub record Notes (p q : Page) (cs : List ℕ) : Type 0 where
  pub rows : q.layout.rows ≡ p.layout.rows
  pub starts : q.layout.starts ≡ p.layout.starts
  pub classes : q.classes ≡ take 448 (p.classes ++ cs)
  pub next : q.next ≡ p.next + length cs
