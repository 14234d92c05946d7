-- Costs as they are added up, row by row.
use Rattle.std.proofs.Common.{◌≡◌, ℕ, zero, suc, ◌+◌, ◌*◌, ◌^◌, ◌<◌, ◌≤◌, Bool, true, false, cond, eqb, List, [], ◌∷◌, ◌++◌, map, length, get_or, take, drop, set, replicate, option_to_list, sym, refl, ap, ◌∙◌, inl, inr, add-mul, arith, get_or-set_other, get_or-set_same}
use Rattle.std.proofs.lemmas.List.{drop_more}
use Rattle.std.proofs.lemmas.Bool.{cases_eq, eq-eqb, ne_eqb}
use Rattle.counting.specs.Counting.{range}
use Rattle.rows.specs.declared.Row.{Row}
use Rattle.rows.specs.Rows.{only, used, reads, writes, end_row, shape}
use Rattle.rounds.specs.Interference.{Graph, node_at}
use Rattle.rounds.specs.Simplify.{members_in, cost}

members_append : (g : Graph) (v : ℕ) (xs ys : List ℕ) → members_in g v (xs ++ ys) ≡ members_in g v xs + members_in g v ys
unfolding members_in
members_append g v [] ys = omega arith
members_append g v (x ∷ xs) ys = omega (arith, members_append g v xs ys)

-- a place in which one variable stands
members_one : (g : Graph) (v x : ℕ) → members_in g v (x ∷ []) ≡ cond (eqb (node_at g x) v) 1 0
unfolding members_in
members_one g v x = omega arith

-- what an accessor of a row tells is in the lists of reads and writes
pub listed : (b : Bool) (x : ℕ) → option_to_list (used b x) ≡ only b x
listed true x = refl
listed false x = refl

-- a place is charged to the node that stands in it
pub charged : (g : Graph) (node : List ℕ) → g.node ≡ node → (v at price : ℕ) (costs : List ℕ) → at ≡ get_or node v v → at < length costs →
    (k : ℕ) → get_or (set costs at (get_or costs at 0 + price)) k 0 ≡ members_in g k (v ∷ []) * price + get_or costs k 0
charged g node same v at price costs e room k =
    let stands : node_at g v ≡ at = ap (λ (ns : List ℕ). get_or ns v v) same ∙ sym e in
    rw (members_one g k v, stands) (elim (cases_eq k at) [
      | inl p ↦ rw (p, eq-eqb at at refl, get_or-set_same costs at (get_or costs at 0 + price) 0 room) (omega arith)
      | inr p ↦ rw (ne_eqb at k (λ q. p (sym q)), get_or-set_other costs at k (get_or costs at 0 + price) 0 p) (omega arith)
    ])

-- no cost rises by more than the highest price
pub charged_small : (price : ℕ) (costs : List ℕ) (at : ℕ) → price ≤ 1000 → at < length costs → (k : ℕ) → get_or (set costs at (get_or costs at 0 + price)) k 0 ≤ get_or costs k 0 + 1000
charged_small price costs at few room k =
    elim (cases_eq k at) [
      | inl p ↦ rw (p, get_or-set_same costs at (get_or costs at 0 + price) 0 room) (omega arith)
      | inr p ↦ rw (get_or-set_other costs at k (get_or costs at 0 + price) 0 p) (omega arith)
    ]

-- a place whose node has no cost is charged to none
pub spared : (g : Graph) (node : List ℕ) → g.node ≡ node → (v at price : ℕ) (costs : List ℕ) → at ≡ get_or node v v → length costs ≤ at →
    (k : ℕ) → k < length costs → get_or costs k 0 ≡ members_in g k (v ∷ []) * price + get_or costs k 0
spared g node same v at price costs e past k h =
    let stands : node_at g v ≡ at = ap (λ (ns : List ℕ). get_or ns v v) same ∙ sym e in
    rw (members_one g k v, stands, ne_eqb at k (λ q. omega arith)) (omega arith)

-- and so is one in which no variable stands
pub spared_none : (g : Graph) (price was k : ℕ) → was ≡ members_in g k [] * price + was
unfolding members_in
spared_none g price was k = omega arith

-- the places of a row, one after another
pub row_charged : (g : Graph) (v : ℕ) (r : Row) (price k₀ k₁ k₂ k₃ : ℕ) →
    k₁ ≡ members_in g v (only (shape r.op).a r.a) * price + k₀ → k₂ ≡ members_in g v (only (shape r.op).b r.b) * price + k₁ → k₃ ≡ members_in g v (only (shape r.op).d r.d) * price + k₂ →
    k₃ ≡ members_in g v (reads r ++ writes r) * price + k₀
row_charged g v r price k₀ k₁ k₂ k₃ a b d =
    let xs = only (shape r.op).a r.a in
    let ys = only (shape r.op).b r.b in
    let zs = only (shape r.op).d r.d in
    let all : members_in g v (reads r ++ writes r) ≡ (members_in g v xs + members_in g v ys) + members_in g v zs = members_append g v (xs ++ ys) zs ∙ ap (λ (n : ℕ). n + members_in g v zs) (members_append g v xs ys) in
    rw (all, add-mul (members_in g v xs + members_in g v ys) (members_in g v zs) price, add-mul (members_in g v xs) (members_in g v ys) price) (omega arith)

-- one row less is to come
pub cost_more : (g : Graph) (v : ℕ) (rows : List Row) (i : ℕ) → i < length rows →
    cost g (drop i rows) v ≡ members_in g v (reads (get_or rows i end_row) ++ writes (get_or rows i end_row)) * 10 ^ (get_or rows i end_row).weight + cost g (drop (i + 1) rows) v
unfolding cost
cost_more g v rows i h = ap (λ rs. cost g rs v) (drop_more rows i end_row h)

-- what a row adds is no more to come
pub carried : (rest last added was now all : ℕ) → rest ≡ added + last → now ≡ added + was → rest + was ≡ all → last + now ≡ all
carried rest last added was now all e f h = omega arith

-- a table of f is a list of f's values
pub table_is : (f : ℕ → ℕ) (xs : List ℕ) (n j : ℕ) → n ≤ length xs → ((k : ℕ) → k < n → get_or xs k 0 ≡ f (j + k)) → take n xs ≡ map f (range n j)
unfolding range
table_is f xs zero j l h = refl
table_is f [] (suc n) j l h = absurd (omega arith)
table_is f (x ∷ xs) (suc n) j l h =
    let here : x ≡ f j = h 0 (omega arith) ∙ (let e : j + 0 ≡ j = omega arith in ap f e) in
    let rest = table_is f xs n (suc j) (omega arith) (λ k b. h (suc k) (omega arith) ∙ (let e : j + suc k ≡ suc j + k = omega arith in ap f e)) in
    rw (here, rest)

pub nothing_charged : (n k : ℕ) → get_or (replicate {A = ℕ} n 0) k 0 ≡ 0
nothing_charged zero k = refl
nothing_charged (suc n) zero = refl
nothing_charged (suc n) (suc k) = nothing_charged n k

pub prices_are : (w : ℕ) → w ≤ 3 → get_or (1 ∷ 10 ∷ 100 ∷ 1000 ∷ []) w 0 ≡ 10 ^ w
prices_are zero h = refl
prices_are (suc zero) h = refl
prices_are (suc (suc zero)) h = refl
prices_are (suc (suc (suc zero))) h = refl
prices_are (suc (suc (suc (suc w)))) h = absurd (omega arith)
