-- The copies of rows, row by row.
use Rattle.std.proofs.Common.{◌≡◌, ℕ, zero, suc, ◌+◌, ◌<◌, ◌≤◌, Bool, true, false, cond, ◌&&◌, ltb, List, [], ◌∷◌, ◌++◌, length, get_or, take, refl, ap, ◌∙◌, inl, inr, arith}
use Rattle.std.proofs.lemmas.List.{take_more, append-nil}
use Rattle.std.proofs.lemmas.Bool.{cases_Bool, cond_both, and_parts, ltb-true}
use Rattle.rows.specs.declared.Row.{Row}
use Rattle.rows.specs.Rows.{copies}
use Rattle.rounds.specs.declared.Ends.{Ends}
use Rattle.rounds.specs.Coalescing.{copies_in}
use Rattle.coalescing.specs.Facts.{Joining}

-- whether a row copies between variables below vars
abbrev joins : ℕ → Row → Bool
joins vars r = copies r.op && (ltb r.d vars && ltb r.a vars)

abbrev pub ends_of : Row → Ends
ends_of r = record { d = r.d; a = r.a }

copies_push : (vars : ℕ) (rs : List Row) (r : Row) → copies_in vars (rs ++ r ∷ []) ≡ copies_in vars rs ++ cond (joins vars r) (ends_of r ∷ []) []
unfolding copies_in
copies_push vars [] r = refl
copies_push vars (x ∷ rs) r =
    let rest = copies_push vars rs r in
    elim (cases_Bool (joins vars x)) [ inl e ↦ rw e (ap (λ (cs : List Ends). ends_of x ∷ cs) rest) | inr e ↦ rw e rest ]

copies_more : (vars : ℕ) (rows : List Row) (i : ℕ) (d : Row) → i < length rows → copies_in vars (take (i + 1) rows) ≡ copies_in vars (take i rows) ++ cond (joins vars (get_or rows i d)) (ends_of (get_or rows i d) ∷ []) []
copies_more vars rows i d l = ap (copies_in vars) (take_more rows i d l) ∙ copies_push vars (take i rows) (get_or rows i d)

pub copies_yes : (vars : ℕ) (rows : List Row) (i : ℕ) (d : Row) → i < length rows → joins vars (get_or rows i d) ≡ true → copies_in vars (take (i + 1) rows) ≡ copies_in vars (take i rows) ++ ends_of (get_or rows i d) ∷ []
copies_yes vars rows i d l e = copies_more vars rows i d l ∙ rw e

pub copies_no : (vars : ℕ) (rows : List Row) (i : ℕ) (d : Row) → i < length rows → joins vars (get_or rows i d) ≡ false → copies_in vars (take (i + 1) rows) ≡ copies_in vars (take i rows)
copies_no vars rows i d l e = copies_more vars rows i d l ∙ rw e (append-nil (copies_in vars (take i rows)))

joining_more : (c : Ends) (cs : List Ends) → (c.d < 448) × (c.a < 448) → Joining cs → Joining (c ∷ cs)
joining_more c cs h rest zero = h
joining_more c cs h rest (suc i) = rest i

pub copies_joining : (vars : ℕ) (rows : List Row) → vars ≤ 448 → Joining (copies_in vars rows)
unfolding copies_in
copies_joining vars [] l = λ i. (omega arith, omega arith)
copies_joining vars (r ∷ rs) l =
    let rest = copies_joining vars rs l in
    cond_both (joins vars r) (ends_of r ∷ copies_in vars rs) (copies_in vars rs) Joining
    (λ e. let low = and_parts (ltb r.d vars) (ltb r.a vars) (and_parts (copies r.op) (ltb r.d vars && ltb r.a vars) e).1 in
    let d = ltb-true r.d vars low.0 in let a = ltb-true r.a vars low.1 in
    joining_more (ends_of r) (copies_in vars rs) (omega arith, omega arith) rest)
    (λ e. rest)
