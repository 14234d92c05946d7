-- The reasons of the rows from one on, and the neighbours that they give.
use Rattle.std.proofs.Common.{◌≡◌, ℕ, suc, ◌+◌, ◌-◌, ◌<◌, ◌≤◌, Bool, true, false, cond, ◌&&◌, eqb, leb, List, [], ◌∷◌, ◌++◌, map, length, get_or, take, drop, sym, refl, ap, ◌∙◌, ap₂, append_assoc, length-append, arith}
use Rattle.std.proofs.lemmas.List.{drop_more, drop_all, length_push}
use Rattle.std.proofs.Math.Seq.{get_or-append_seam}
use Rattle.counting.specs.Counting.{range}
use Rattle.sets.specs.Sets.{has, single, union, when}
use Rattle.sets.specs.Words.{cleared}
use Rattle.rows.specs.declared.Row.{Row}
use Rattle.rows.specs.Rows.{shape, writes, row_at, end_row}
use Rattle.rows.proofs.Fields.{members_empty}
use Rattle.facts.specs.Flow.{feeders, at, incoming, rows as rows_of, solved}
use Rattle.facts.specs.Solving.{suffices}
use Rattle.admission.proofs.Ways.{nexts_length}
use Rattle.rounds.specs.Liveness.{liveness, live_before, live_after}
use Rattle.rounds.specs.Interference.{Reason, reason, reasons, near}
use Rattle.interference.specs.Building.{Joined, Neighbours}

-- ---- sets that hold neighbours

-- a list of sets by place, and the same with something added to each
added : (f g : ℕ → ℕ) (j : ℕ) (was after : List ℕ) → length after ≡ length was → was ≡ map f (range (length was) j) →
    ((k : ℕ) → k < length was → (get_or after k 0) ≡ union (g (j + k)) ((get_or was k 0))) → after ≡ map (λ v. union (g v) (f v)) (range (length after) j)
unfolding range
added f g j [] [] l e h = refl
added f g j [] (b ∷ bs) l e h = absurd (omega arith)
added f g j (w ∷ ws) [] l e h = absurd (omega arith)
added f g j (w ∷ ws) (b ∷ bs) l e h =
    let z : j + 0 ≡ j = omega arith in
    let head : w ≡ f j = cc in
    let tail : ws ≡ map f (range (length ws) (suc j)) = cc in
    let here : b ≡ union (g j) (f j) = h 0 (omega arith) ∙ ap₂ (λ (n x : ℕ). union (g n) x) z head in
    let rest = added f g (suc j) ws bs (omega arith) tail (λ k u. let s : j + suc k ≡ suc j + k = omega arith in h (suc k) (omega arith) ∙ ap (λ (n : ℕ). union (g n) ((get_or ws k 0))) s) in
    ap₂ ◌∷◌ here rest

neighbours_more : (side : Reason → ℕ) (r : Reason) (rs : List Reason) (was after : List ℕ) → length after ≡ length was → Joined r.d (side r) was after →
    Neighbours side rs was → Neighbours side (r ∷ rs) after
unfolding near
neighbours_more side r rs was after l joined e =
    added (near side rs) (λ v. cond (eqb v r.d) (side r) (when (has (side r) v) (single r.d))) 0 was after l e
    (λ k h. let z : k ≡ 0 + k = omega arith in joined k h ∙ ap (λ (v : ℕ). union (cond (eqb v r.d) (side r) (when (has (side r) v) (single r.d))) ((get_or was k 0))) z)

emptied : (side : Reason → ℕ) (j : ℕ) (ss : List ℕ) → (cleared (length ss) ss) ≡ map (near side []) (range (length (cleared (length ss) ss)) j)
unfolding near range
emptied side j [] = refl
emptied side j (s ∷ ss) = ap₂ ◌∷◌ members_empty (emptied side (suc j) ss)

-- cleared sets hold what no reason gives
pub neighbours_none : (side : Reason → ℕ) (n : ℕ) (was after : List ℕ) → n ≡ length was → after ≡ cleared n was → Neighbours side [] after
neighbours_none side n was after e is = rw (is, e) (emptied side 0 was)

-- a row that writes has one reason, and another none
pub neighbours_written : (side : Reason → ℕ) (row : Row) (live others : ℕ) (was after : List ℕ) → length after ≡ length was → (shape row.op).d ≡ true →
    others ≡ side (reason row live row.d) → Joined row.d others was after → (rs : List Reason) → Neighbours side rs was → Neighbours side (map (reason row live) (writes row) ++ rs) after
neighbours_written side row live others was after l w is joined rs e = rw w (neighbours_more side (reason row live row.d) rs was after l (rw is at joined) e)

pub neighbours_unwritten : (side : Reason → ℕ) (row : Row) (live : ℕ) (was : List ℕ) → (shape row.op).d ≡ false →
    (rs : List Reason) → Neighbours side rs was → Neighbours side (map (reason row live) (writes row) ++ rs) was
neighbours_unwritten side row live was w rs e = rw w e

-- ---- the rows from one on

-- what is live after row i
abbrev pub after : List Row → ℕ → ℕ
after rows i = let f = liveness rows in incoming f (feeders f) (at f (live_before rows)) i

-- the reasons of the rows from i on
unfoldable pub later : List Row → ℕ → List Reason
later rows i = reasons (drop i rows) (map (after rows) (range (length rows - i) i))

pub later_none : (rows : List Row) (i : ℕ) → length rows ≤ i → later rows i ≡ []
unfolding later reasons
later_none rows i l = rw (drop_all i rows l)

later_more : (rows : List Row) (i j : ℕ) → j + 1 ≡ i → j < length rows → later rows j ≡ map (reason (row_at rows j) (after rows j)) (writes (row_at rows j)) ++ later rows i
unfolding later reasons range
later_more rows i j e l =
    let n : length rows - j ≡ suc (length rows - i) = omega arith in
    let s : suc j ≡ i = omega arith in
    rw (drop_more rows j end_row l, n, e, s)

-- the rows still to be gone through are the first of all
abbrev pub Leads : (left rows : List Row) → Type 0
Leads left rows = (gone : List Row) × (left ++ gone ≡ rows)

-- the last of them is gone through next
pub leads_row : (rows was left : List Row) (row : Row) → was ≡ left ++ row ∷ [] → Leads was rows → Leads left rows × (row ≡ row_at rows (length left))
leads_row rows was left row e (gone, is) =
    let all : left ++ row ∷ gone ≡ rows = sym (append_assoc left (row ∷ []) gone) ∙ ap (λ (xs : List Row). xs ++ gone) (sym e) ∙ is in
    ((row ∷ gone, all), sym (get_or-append_seam left row gone end_row) ∙ ap (λ (xs : List Row). get_or xs (length left) end_row) all)

-- a row more, the rows being gone through from the last to the first
pub neighbours_row : (side : Reason → ℕ) (rows left : List Row) (row : Row) (i live : ℕ) (was now : List ℕ) → i ≡ length (left ++ row ∷ []) → Leads (left ++ row ∷ []) rows → live ≡ after rows (length left) →
    ((rs : List Reason) → Neighbours side rs was → Neighbours side (map (reason row live) (writes row) ++ rs) now) → Neighbours side (later rows i) was → Neighbours side (later rows (length left)) now
neighbours_row side rows left row i live was now e leads is h was-so =
    let n : length left + 1 ≡ i = sym (e ∙ length_push left row) in
    let long = ap length leads.1 in
    let lt : length left < length rows = omega (arith, n, e, long, length-append (left ++ row ∷ []) leads.0) in
    rw (later_more rows i (length left) n lt, ← is, ← (leads_row rows (left ++ row ∷ []) left row refl leads).1) (h (later rows i) was-so)

pub later_all : (rows : List Row) (i : ℕ) → i ≡ 0 → later rows i ≡ reasons rows (live_after rows)
unfolding later live_after
later_all rows i e = let z : length rows - 0 ≡ length rows = omega arith in rw (e, z)

-- ---- liveness in the memory lent

-- the solution that stands in the memory is what is live before each row
pub live_before_lem : (rows : List Row) (live : List ℕ) → (take (rows_of (liveness rows)) live) ≡ solved (liveness rows) → (take (length rows) live) ≡ live_before rows
unfolding live_before
live_before_lem rows live e = ap (λ (n : ℕ). (take n live)) (sym (nexts_length 0 rows)) ∙ e

pub live_past : (rows : List Row) (live live' : List ℕ) → drop (rows_of (liveness rows)) live' ≡ drop (rows_of (liveness rows)) live → drop (length rows) live' ≡ drop (length rows) live
live_past rows live live' e = rw (nexts_length 0 rows) at e

pub live_after_lem : (rows : List Row) (live : List ℕ) (i x : ℕ) → (take (length rows) live) ≡ live_before rows →
    x ≡ (let f = liveness rows in incoming f (feeders f) (at f ((take (rows_of f) live))) i) → x ≡ after rows i
live_after_lem rows live i x before e =
    let f = liveness rows in
    let held : (take (rows_of f) live) ≡ live_before rows = ap (λ (n : ℕ). (take n live)) (nexts_length 0 rows) ∙ before in
    e ∙ ap (λ (kept : List ℕ). incoming f (feeders f) (at f kept) i) held

pub room : (rows : List Row) (r : Bool) (a b : ℕ) → r ≡ suffices (liveness rows) a b → r ≡ leb (length rows) a
room rows r a b e = e ∙ alone (leb (rows_of (liveness rows)) a) ∙ ap (λ (n : ℕ). leb n a) (nexts_length 0 rows)
  where
    alone : (b : Bool) → (b && true) ≡ b
    alone true = refl
    alone false = refl
