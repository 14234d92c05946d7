-- Edges are made by rows: reasons, and the sets of neighbours gathered from them.
use Rattle.std.proofs.Common.{◌≡◌, ℕ, zero, suc, ◌+◌, ◌<◌, ◌≤◌, Bool, true, false, cond, not, ◌&&◌, ◌||◌, eqb, ltb, ◌⊎◌, List, [], ◌∷◌, map, length, get_or, sym, refl, ap, ◌∙◌, subst, inl, inr, arith}
use Rattle.std.proofs.lemmas.List.{get_or_past}
use Rattle.std.proofs.lemmas.Bool.{cases_Bool, cases_lt, both_ways, or_cases, or_left, or_right, and_parts, and_from, ne_eqb, eqb-true, eqb-false, lt-ltb, not-true, not_from_false}
use Rattle.counting.specs.Counting.{range}
use Rattle.sets.specs.Sets.{has, single, minus, when}
use Rattle.sets.proofs.Members.{has_union, has_minus, has_none, has_single, has_when}
use Rattle.rows.specs.declared.Row.{Row}
use Rattle.rows.specs.Rows.{copies, shape, only, reads, set_of, row_at}
use Rattle.facts.specs.Flow.{holds}
use Rattle.rounds.specs.Liveness.{live_after}
use Rattle.rounds.specs.Interference.{Reason, reason, reasons, near, beside, neighbours, interference}
use Rattle.interfering.specs.Living.{read_at, written_at, lives_after}
use Rattle.interfering.specs.Edges.{Meets, Clashes, Neighbours, Hard, Names, Proper, Interferes}
use Rattle.interfering.proofs.Living.{has_set_of, table_at, table_length, writes_inside, after_long, after_below, after_only, live_holds}

-- ---- reasons

or_same : (a b : Bool) → a ≡ b → a ≡ (a || b)
or_same true b e = refl
or_same false b e = e

or_none : (a : Bool) → a ≡ (a || false)
or_none true = refl
or_none false = refl

and_comm : (a b : Bool) → (a && b) ≡ (b && a)
and_comm a b = grind arith

-- whether a reason joins v and w over one of its sides
abbrev pub joins : (Reason → ℕ) → Reason → ℕ → ℕ → Bool
joins side r v w = (eqb v r.d && has (side r) w) || (eqb w r.d && has (side r) v)

near_one : (side : Reason → ℕ) (r : Reason) (v w : ℕ) → has (cond (eqb v r.d) (side r) (when (has (side r) v) (single r.d))) w ≡ joins side r v w
near_one side r v w = elim (cases_Bool (eqb v r.d)) [
  | inl e ↦ elim (cases_Bool (eqb w r.d)) [ inl f ↦ rw (e, f) (or_same _ _ (ap (has (side r)) (eqb-true w r.d f ∙ sym (eqb-true v r.d e)))) | inr f ↦ rw (e, f) (or_none (has (side r) w)) ]
  | inr e ↦ rw e (has_when (has (side r) v) (single r.d) w ∙ and_comm (has (side r) v) (has (single r.d) w) ∙ ap (λ b. b && has (side r) v) (has_single r.d w))
]

near_more : (side : Reason → ℕ) (r : Reason) (rs : List Reason) (v w : ℕ) → has (near side (r ∷ rs) v) w ≡ (joins side r v w || has (near side rs v) w)
unfolding near
near_more side r rs v w = has_union _ (near side rs v) w ∙ ap (λ b. b || has (near side rs v) w) (near_one side r v w)

-- row i gives the pair x, y a reason over one of its sides
abbrev pub Gives : (Reason → ℕ) → List Row → List ℕ → ℕ → ℕ → ℕ → Type 0
Gives side rows lives i x y = (written_at rows i x ≡ true) × (has (side (reason (row_at rows i) (get_or lives i 0) x)) y ≡ true)

abbrev pub Given : (Reason → ℕ) → List Row → List ℕ → ℕ → ℕ → Type 0
Given side rows lives v w = (i : ℕ) × (Gives side rows lives i v w ⊎ Gives side rows lives i w v)

holds_only : (b : Bool) (x v : ℕ) → holds (only b x) v ≡ (b && eqb v x)
unfolding holds
holds_only true x v = grind arith
holds_only false x v = refl

module _ (side : Reason → ℕ) where
  later : (r : Row) (rows : List Row) (l : ℕ) (lives : List ℕ) (v w : ℕ) → Given side rows lives v w → Given side (r ∷ rows) (l ∷ lives) v w
  later r rows l lives v w (i, g) = (suc i, g)

  here : (r : Row) (rows : List Row) (l : ℕ) (lives : List ℕ) (v w : ℕ) → (shape r.op).d ≡ true → joins side (reason r l r.d) v w ≡ true → Given side (r ∷ rows) (l ∷ lives) v w
  here r rows l lives v w s h =
      elim (or_cases (eqb v r.d && has (side (reason r l r.d)) w) (eqb w r.d && has (side (reason r l r.d)) v) h) [
        | inl e ↦ (let (a, b) = and_parts (eqb v r.d) _ e in (0, inl (holds_only _ r.d v ∙ and_from _ _ s a, ap (λ (x : ℕ). has (side (reason r l x)) w) (eqb-true v r.d a) ∙ b)))
        | inr e ↦ (let (a, b) = and_parts (eqb w r.d) _ e in (0, inr (holds_only _ r.d w ∙ and_from _ _ s a, ap (λ (x : ℕ). has (side (reason r l x)) v) (eqb-true w r.d a) ∙ b)))
      ]

  pub near_only : (rows : List Row) (lives : List ℕ) (v w : ℕ) → has (near side (reasons rows lives) v) w ≡ true → Given side rows lives v w
  unfolding reasons near
  near_only [] lives v w h = absurd (both_ways _ (has_none w) h)
  near_only (r ∷ rs) [] v w h = absurd (both_ways _ (has_none w) h)
  near_only (r ∷ rs) (l ∷ ls) v w h =
      elim (cases_Bool (shape r.op).d) [
        | inl e ↦ (let k : has (near side (reason r l r.d ∷ reasons rs ls) v) w ≡ true = rw e at h in
            elim (or_cases (joins side (reason r l r.d) v w) _ (sym (near_more side (reason r l r.d) (reasons rs ls) v w) ∙ k)) [
              | inl a ↦ here r rs l ls v w e a
              | inr a ↦ later r rs l ls v w (near_only rs ls v w a)
            ])
        | inr e ↦ (let k : has (near side (reasons rs ls) v) w ≡ true = rw e at h in later r rs l ls v w (near_only rs ls v w k))
      ]

  -- a reason joins its d with each of its side, either way round
  joined : (r : Row) (l x y v w : ℕ) → eqb x r.d ≡ true → has (side (reason r l x)) y ≡ true → ((v ≡ x) × (w ≡ y)) ⊎ ((v ≡ y) × (w ≡ x)) → joins side (reason r l r.d) v w ≡ true
  joined r l x y v w e h o =
      let k : has (side (reason r l r.d)) y ≡ true = ap (λ (n : ℕ). has (side (reason r l n)) y) (sym (eqb-true x r.d e)) ∙ h in
      elim o [
        | inl (p, q) ↦ or_left _ _ (and_from _ _ (ap (λ (n : ℕ). eqb n r.d) p ∙ e) (ap (has (side (reason r l r.d))) q ∙ k))
        | inr (p, q) ↦ or_right (eqb v r.d && has (side (reason r l r.d)) w) _ (and_from _ _ (ap (λ (n : ℕ). eqb n r.d) q ∙ e) (ap (has (side (reason r l r.d))) p ∙ k))
      ]

  pub near_each : (rows : List Row) (lives : List ℕ) (i x y v w : ℕ) → length lives ≡ length rows → Gives side rows lives i x y → ((v ≡ x) × (w ≡ y)) ⊎ ((v ≡ y) × (w ≡ x)) →
      has (near side (reasons rows lives) v) w ≡ true
  unfolding reasons near
  near_each [] lives i x y v w long (a, b) o = absurd (let l = writes_inside [] i x a in omega arith)
  near_each (r ∷ rs) [] i x y v w long (a, b) o = absurd (omega arith)
  near_each (r ∷ rs) (l ∷ ls) zero x y v w long (a, b) o =
      let (s, e) = and_parts (shape r.op).d (eqb x r.d) (sym (holds_only (shape r.op).d r.d x) ∙ a) in
      rw s (near_more side (reason r l r.d) (reasons rs ls) v w ∙ or_left _ _ (joined r l x y v w e b o))
  near_each (r ∷ rs) (l ∷ ls) (suc i) x y v w long g o =
      let ih = near_each rs ls i x y v w (omega arith) g o in
      elim (cases_Bool (shape r.op).d) [
        | inl e ↦ rw e (near_more side (reason r l r.d) (reasons rs ls) v w ∙ or_right (joins side (reason r l r.d) v w) _ ih)
        | inr e ↦ rw e ih
      ]

  pub near_given : (rows : List Row) (lives : List ℕ) (v w : ℕ) → length lives ≡ length rows → Given side rows lives v w → has (near side (reasons rows lives) v) w ≡ true
  near_given rows lives v w long (i, inl g) = near_each rows lives i v w v w long g (inl (refl, refl))
  near_given rows lives v w long (i, inr g) = near_each rows lives i w v v w long g (inr (refl, refl))

-- ---- the two sides

abbrev others_of : Reason → ℕ
others_of r = r.others

abbrev hard_of : Reason → ℕ
hard_of r = r.hard

has_others : (r : Row) (live x y : ℕ) → has (reason r live x).others y ≡ (has live y && not (eqb y x))
has_others r live x y = has_minus live (single x) y ∙ rw (has_single x y)

has_hard : (r : Row) (live x y : ℕ) → has (reason r live x).hard y ≡ ((has live y && not (eqb y x)) && not (copies r.op && (holds (reads r) y && ltb y 448)))
has_hard r live x y =
    has_minus (minus live (single x)) (when (copies r.op) (set_of (reads r))) y ∙ rw (has_others r live x y, has_when (copies r.op) (set_of (reads r)) y, has_set_of (reads r) y)

module _ (rows : List Row) where
  meets_only : (i x y : ℕ) → Gives others_of rows (live_after rows) i x y → Meets rows i x y
  meets_only i x y (w, h) =
      let (l, ne) = and_parts (lives_after rows i y) (not (eqb y x)) (sym (has_others (row_at rows i) (get_or (live_after rows) i 0) x y) ∙ h) in
      (w, l, λ e. eqb-false y x (not-true _ ne) (sym e))

  meets_each : (i x y : ℕ) → Meets rows i x y → Gives others_of rows (live_after rows) i x y
  meets_each i x y (w, l, ne) = (w, has_others (row_at rows i) (get_or (live_after rows) i 0) x y ∙ and_from _ _ l (not_from_false _ (ne_eqb y x (λ e. ne (sym e)))))

  clashes_only : (i x y : ℕ) → Gives hard_of rows (live_after rows) i x y → Clashes rows i x y
  clashes_only i x y (w, h) =
      let (m, c) = and_parts (lives_after rows i y && not (eqb y x)) _ (sym (has_hard (row_at rows i) (get_or (live_after rows) i 0) x y) ∙ h) in
      let (l, ne) = and_parts (lives_after rows i y) (not (eqb y x)) m in
      let small : ltb y 448 ≡ true = lt-ltb y 448 (after_below rows i y l) in
      let soft : (copies (row_at rows i).op && (read_at rows i y && ltb y 448)) ≡ false = not-true _ c in
      ((w, l, λ e. eqb-false y x (not-true _ ne) (sym e)), plain (copies (row_at rows i).op) (read_at rows i y) (ltb y 448) small soft)
    where
      plain : (a b c : Bool) → c ≡ true → (a && (b && c)) ≡ false → (a && b) ≡ false
      plain a b c p q = grind arith

  clashes_each : (i x y : ℕ) → Clashes rows i x y → Gives hard_of rows (live_after rows) i x y
  clashes_each i x y ((w, l, ne), c) = (
    w,
    has_hard (row_at rows i) (get_or (live_after rows) i 0) x y ∙ and_from _ _ (and_from _ _ l (not_from_false _ (ne_eqb y x (λ e. ne (sym e)))))
        (not_from_false _ (fenced (copies (row_at rows i).op) (read_at rows i y) (ltb y 448) c)),
  )
    where
      fenced : (a b c : Bool) → (a && b) ≡ false → (a && (b && c)) ≡ false
      fenced a b c q = grind arith

-- ---- the graph of the rows

range_at : (n j v : ℕ) → get_or (range n j) v (j + v) ≡ j + v
unfolding range
range_at zero j v = refl
range_at (suc n) j zero = omega arith
range_at (suc n) j (suc v) = let e : j + suc v ≡ suc j + v = omega arith in rw e (range_at n (suc j) v)

range_long : (n j : ℕ) → length (range n j) ≡ n
unfolding range
range_long zero j = refl
range_long (suc n) j = ap suc (range_long n (suc j))

table_past : (f : ℕ → ℕ) (n v : ℕ) → n ≤ v → get_or (map f (range n 0)) v 0 ≡ 0
table_past f n v l = get_or_past (map f (range n 0)) v 0 (rw (table_length f n 0) l)

module _ (classes : List ℕ) (nodes : ℕ) (rows : List Row) (names : Names classes nodes rows) where
  -- whatever is live is named by a row
  pub live_node : (i v : ℕ) → lives_after rows i v ≡ true → has nodes v ≡ true
  live_node i v h =
      let (j, g, b) = after_only rows i v h in
      live_holds rows (λ i v. has nodes v ≡ true) (λ i v r. names.named i v (inl r)) (λ i j v g w p. p) j v b

  pub written_node : (i v : ℕ) → written_at rows i v ≡ true → has nodes v ≡ true
  written_node i v h = names.named i v (inr h)

  list_only : (side : Reason → ℕ) (v w : ℕ) → has (beside (map (near side (reasons rows (live_after rows))) (range (length classes) 0)) v) w ≡ true → Given side rows (live_after rows) v w
  list_only side v w h =
      let f : ℕ → ℕ = near side (reasons rows (live_after rows)) in
      elim (cases_lt v (length classes)) [
        | inl l ↦ (let e : 0 + v ≡ v = omega arith in
            near_only side rows (live_after rows) v w (ap (λ (x : ℕ). has (f x) w) (sym e) ∙ ap (λ (x : ℕ). has x w) (sym (table_at f (length classes) 0 v 0 l)) ∙ h))
        | inr l ↦ absurd (both_ways _ (ap (λ (x : ℕ). has x w) (table_past f (length classes) v l) ∙ has_none w) h)
      ]

  list_each : (side : Reason → ℕ) (v w : ℕ) → v < length classes → Given side rows (live_after rows) v w → has (beside (map (near side (reasons rows (live_after rows))) (range (length classes) 0)) v) w ≡ true
  list_each side v w l g =
      let f : ℕ → ℕ = near side (reasons rows (live_after rows)) in
      let e : 0 + v ≡ v = omega arith in
      ap (λ (x : ℕ). has x w) (table_at f (length classes) 0 v 0 l) ∙ ap (λ (x : ℕ). has (f x) w) e ∙ near_given side rows (live_after rows) v w (after_long rows) g

  met_nodes : (v w : ℕ) → Neighbours rows v w → (has nodes v ≡ true) × (has nodes w ≡ true)
  met_nodes v w (i, inl (a, b, _)) = (written_node i v a, live_node i w b)
  met_nodes v w (i, inr (a, b, _)) = (live_node i v b, written_node i w a)

  soften : (v w : ℕ) → Hard rows v w → Neighbours rows v w
  soften v w (i, inl (m, _)) = (i, inl m)
  soften v w (i, inr (m, _)) = (i, inr m)

  turned : (v w : ℕ) → Neighbours rows v w → Neighbours rows w v
  turned v w (i, inl m) = (i, inr m)
  turned v w (i, inr m) = (i, inl m)

  turned_hard : (v w : ℕ) → Hard rows v w → Hard rows w v
  turned_hard v w (i, inl m) = (i, inr m)
  turned_hard v w (i, inr m) = (i, inl m)

  pub interferes : Interferes rows (interference classes nodes rows (live_after rows))
  unfolding interference
  interferes = record {
    edge_only = λ v w h. let (i, g) = list_only others_of v w h in (i, elim g [ inl a ↦ inl (meets_only rows i v w a) | inr a ↦ inr (meets_only rows i w v a) ]);
    edge_each = λ v w m. list_each others_of v w (names.below v (met_nodes v w m).0) (m.0, elim m.1 [ inl a ↦ inl (meets_each rows m.0 v w a) | inr a ↦ inr (meets_each rows m.0 w v a) ]);
    hard_only = λ v w h. let (i, g) = list_only hard_of v w h in (i, elim g [ inl a ↦ inl (clashes_only rows i v w a) | inr a ↦ inr (clashes_only rows i w v a) ]);
    hard_each = λ v w m. list_each hard_of v w (names.below v (met_nodes v w (soften v w m)).0) (m.0, elim m.1 [ inl a ↦ inl (clashes_each rows m.0 v w a) | inr a ↦ inr (clashes_each rows m.0 w v a) ]);
    alone = λ v. let e : 0 + v ≡ v = omega arith in subst (λ (x : ℕ). get_or (range (length classes) 0) v x ≡ x) e (range_at (length classes) 0 v);
  }

  different : (v : ℕ) → Neighbours rows v v → ⊥
  different v (i, inl (_, _, ne)) = ne refl
  different v (i, inr (_, _, ne)) = ne refl

  pub proper : Proper (interference classes nodes rows (live_after rows))
  unfolding interference
  proper =
      let r = interferes in
      record {
        below = names.below;
        ends = λ v w h. (met_nodes v w (r.edge_only v w h)).1;
        symmetric = λ v w h. r.edge_each w v (turned v w (r.edge_only v w h));
        loopless = λ v. elim (cases_Bool (has (neighbours (interference classes nodes rows (live_after rows)) v) v)) [ inl e ↦ absurd (different v (r.edge_only v v e)) | inr e ↦ e ];
        hard_symmetric = λ v w h. r.hard_each w v (turned_hard v w (r.hard_only v w h));
        hard_edge = λ v w h. r.edge_each v w (soften v w (r.hard_only v w h));
        edges_long = table_length (near others_of (reasons rows (live_after rows))) (length classes) 0;
        hard_long = table_length (near hard_of (reasons rows (live_after rows))) (length classes) 0;
        node_long = range_long (length classes) 0;
      }

  pub writing : (i d w : ℕ) → written_at rows i d ≡ true → lives_after rows i w ≡ true → (d ≡ w → ⊥) → has (neighbours (interference classes nodes rows (live_after rows)) d) w ≡ true
  writing i d w a b ne = interferes.edge_each d w (i, inl (a, b, ne))
