-- Merges one after another keep nodes, classes and edges in order, and no hard edge inside a node.
use Rattle.std.proofs.Common.{◌≡◌, ℕ, zero, suc, ◌<◌, ◌≤◌, min, max, Bool, true, false, not, ◌&&◌, ◌||◌, eqb, List, map, length, get_or, sym, refl, ap, ◌∙◌, subst, inl, inr, arith}
use Rattle.std.proofs.lemmas.List.{get_or_past, get_or-map, length-map}
use Rattle.std.proofs.lemmas.Bool.{cases_Bool, cases_lt, cases_eq, both_ways, or_parts, and_parts, and_from, eq-eqb, ne_eqb, eqb-false, lt-ltb, le-ltb, not-true}
use Rattle.counting.specs.Counting.{least}
use Rattle.counting.proofs.Searches.{least_found}
use Rattle.sets.specs.Sets.{has, single, minus}
use Rattle.sets.proofs.Members.{has_minus, has_single}
use Rattle.registers.specs.Model.{Model}
use Rattle.rounds.specs.declared.Ends.{Ends}
use Rattle.rounds.specs.Interference.{Graph, beside, neighbours, class_at, node_at}
use Rattle.rounds.specs.Coalescing.{contracted, merged, mergeable, no_ends, first_mergeable, coalesced}
use Rattle.interfering.specs.Edges.{Proper}
use Rattle.merging.specs.Merging.{Joins, AllJoin, Unmerged, Gathers, Coalesces}
use Rattle.merging.proofs.Contracting.{contracts, contracted_long, moved, moved_high, moved_other, gathers_only, gathers_each}

-- what each merge keeps up, o being the graph before the first
pub record Kept (vars : ℕ) (o g : Graph) : Type 0 where
  pub classes : g.classes ≡ o.classes
  pub itself : (v : ℕ) → node_at g (node_at g v) ≡ node_at g v
  pub down : (v : ℕ) → node_at g v ≤ v
  pub alike : (v : ℕ) → class_at o (node_at g v) ≡ class_at o v
  pub outside : (v : ℕ) → vars ≤ v → node_at g v ≡ v
  pub nodes : (v : ℕ) → has g.nodes v ≡ (has o.nodes v && eqb (node_at g v) v)
  pub stays : (v : ℕ) → has o.nodes v ≡ true → has o.nodes (node_at g v) ≡ true
  pub edges : Gathers o.edges g.edges g
  pub hard : Gathers o.hard g.hard g
  pub apart : (v w : ℕ) → node_at g v ≡ node_at g w → has (beside o.hard v) w ≡ false
  pub edges_long : length g.edges ≡ length o.classes
  pub hard_long : length g.hard ≡ length o.classes
  pub node_long : length g.node ≡ length o.classes

-- ---- before any merge

module _ (vars : ℕ) (o : Graph) (p : Proper o) (alone : Unmerged o) where
  own : (es : List ℕ) → ((v : ℕ) → has (beside es v) v ≡ false) → Gathers es es o
  own es loopless = record {
    only = λ a b h. (λ e. both_ways _ (loopless a) (ap (has (beside es a)) e ∙ h), (a, b, alone a, alone b, h));
    each = λ a b d l. let (x, y, e, f, h) = l in let ax : x ≡ a = sym (alone x) ∙ e in let by : y ≡ b = sym (alone y) ∙ f in subst (λ (z : ℕ). has (beside es z) b ≡ true) ax (subst (λ (z : ℕ). has (beside es x) z ≡ true) by h);
  }

  hard_loopless : (v : ℕ) → has (beside o.hard v) v ≡ false
  hard_loopless v = elim (cases_Bool (has (beside o.hard v) v)) [ inl e ↦ absurd (both_ways _ (p.loopless v) (p.hard_edge v v e)) | inr e ↦ e ]

  pub kept_none : Kept vars o o
  kept_none = record {
    classes = refl;
    itself = λ v. alone (node_at o v);
    down = λ v. omega (arith, alone v);
    alike = λ v. ap (class_at o) (alone v);
    outside = λ v l. alone v;
    nodes = λ v. rw (eq-eqb (node_at o v) v (alone v)) (all (has o.nodes v));
    stays = λ v h. ap (has o.nodes) (alone v) ∙ h;
    edges = own o.edges p.loopless;
    hard = own o.hard hard_loopless;
    apart = λ v w e. let same : v ≡ w = sym (alone v) ∙ e ∙ alone w in ap (has (beside o.hard v)) (sym same) ∙ hard_loopless v;
    edges_long = p.edges_long;
    hard_long = p.hard_long;
    node_long = p.node_long;
  }
    where
      all : (t : Bool) → t ≡ (t && true)
      all t = grind arith

-- ---- one merge

-- the graph after high went into low
pub joined : ℕ → ℕ → Graph → Graph
joined low high g = record {
  classes = g.classes;
  node = map (moved low high) g.node;
  nodes = minus g.nodes (single high);
  edges = contracted low high g.edges;
  hard = contracted low high g.hard;
}

module _ (vars : ℕ) (o g : Graph) (k : Kept vars o g) (low high : ℕ) (less : low < high) (inside : high < length o.classes) (source : high < vars)
    (low-node : node_at g low ≡ low) (high-node : node_at g high ≡ high) (low-old : has o.nodes low ≡ true) (classes_same : class_at o low ≡ class_at o high)
    (quiet : has (beside g.hard low) high ≡ false) (quiet-back : has (beside g.hard high) low ≡ false) where
  after : Graph
  after = joined low high g

  follows : (v : ℕ) → node_at (joined low high g) v ≡ moved low high (node_at g v)
  unfolding joined
  follows v = elim (cases_lt v (length g.node)) [
    | inl l ↦ get_or-map (moved low high) g.node v v v l
    | inr l ↦ (let same : node_at g v ≡ v = get_or_past g.node v v l in
        get_or_past (map (moved low high) g.node) v v (rw (length-map g.node (moved low high)) l) ∙ sym (rw same (moved_other low high v (omega (arith, k.node_long)))))
  ]

  into : (v : ℕ) → node_at g v ≡ high → node_at (joined low high g) v ≡ low
  into v e = follows v ∙ moved_high low high (node_at g v) e

  rests : (v : ℕ) → (node_at g v ≡ high → ⊥) → node_at (joined low high g) v ≡ node_at g v
  rests v e = follows v ∙ moved_other low high (node_at g v) e

  low_rests : node_at (joined low high g) low ≡ low
  low_rests = rests low (λ e. let z : low ≡ high = sym low-node ∙ e in omega arith) ∙ low-node

  gathers : (es fs : List ℕ) → length fs ≡ length o.classes → Gathers es fs g → Gathers es (contracted low high fs) (joined low high g)
  gathers es fs long h =
      let c = contracts low high fs less (omega arith) in
      record {
        only = gathers_only low high (λ a b. has (beside es a) b) (λ a b. has (beside fs a) b) (λ a b. has (beside (contracted low high fs) a) b) (node_at g) (node_at (joined low high g)) c less follows h.only h.each;
        each = gathers_each low high (λ a b. has (beside es a) b) (λ a b. has (beside fs a) b) (λ a b. has (beside (contracted low high fs) a) b) (node_at g) (node_at (joined low high g)) c less follows h.only h.each;
      }

  itself : (v : ℕ) → node_at (joined low high g) (node_at (joined low high g) v) ≡ node_at (joined low high g) v
  itself v = elim (cases_eq (node_at g v) high) [
    | inl e ↦ rw (into v e) low_rests
    | inr e ↦ rw (rests v e) (rests (node_at g v) (λ z. e (sym (k.itself v) ∙ z)) ∙ k.itself v)
  ]

  down : (v : ℕ) → node_at (joined low high g) v ≤ v
  down v = elim (cases_eq (node_at g v) high) [ inl e ↦ omega (arith, into v e, k.down v) | inr e ↦ omega (arith, rests v e, k.down v) ]

  alike : (v : ℕ) → class_at o (node_at (joined low high g) v) ≡ class_at o v
  alike v = elim (cases_eq (node_at g v) high) [
    | inl e ↦ ap (class_at o) (into v e) ∙ classes_same ∙ ap (class_at o) (sym e) ∙ k.alike v
    | inr e ↦ ap (class_at o) (rests v e) ∙ k.alike v
  ]

  outside : (v : ℕ) → vars ≤ v → node_at (joined low high g) v ≡ v
  outside v l = let same = k.outside v l in rests v (λ e. let z : v ≡ high = sym same ∙ e in omega arith) ∙ same

  nodes : (v : ℕ) → has (minus g.nodes (single high)) v ≡ (has o.nodes v && eqb (node_at (joined low high g) v) v)
  nodes v =
      has_minus g.nodes (single high) v ∙ rw (k.nodes v, has_single high v) (elim (cases_eq v high) [
        | inl e ↦ (let z : node_at (joined low high g) v ≡ low = into v (ap (node_at g) e ∙ high-node) in
            rw (eq-eqb v high e, ne_eqb (node_at (joined low high g) v) v (λ q. let y : low ≡ high = sym z ∙ q ∙ e in omega arith)) (none (has o.nodes v) (eqb (node_at g v) v)))
        | inr e ↦ elim (cases_eq (node_at g v) high) [
          | inl f ↦ rw (
            ne_eqb v high e,
            ne_eqb (node_at g v) v (λ q. e (sym q ∙ f)),
            ne_eqb (node_at (joined low high g) v) v (λ q. let y : low ≡ high = sym low-node ∙ ap (node_at g) (sym (into v f) ∙ q) ∙ f in omega arith),
          ) (gone (has o.nodes v))
          | inr f ↦ rw (ne_eqb v high e, rests v f) (same (has o.nodes v) (eqb (node_at g v) v))
        ]
      ])
    where
      none : (s t : Bool) → ((s && t) && false) ≡ (s && false)
      none s t = grind arith

      gone : (s : Bool) → ((s && false) && true) ≡ (s && false)
      gone s = grind arith

      same : (s t : Bool) → ((s && t) && true) ≡ (s && t)
      same s t = grind arith

  stays : (v : ℕ) → has o.nodes v ≡ true → has o.nodes (node_at (joined low high g) v) ≡ true
  stays v h = elim (cases_eq (node_at g v) high) [
    | inl e ↦ ap (has o.nodes) (into v e) ∙ low-old
    | inr e ↦ ap (has o.nodes) (rests v e) ∙ k.stays v h
  ]

  -- members of the two nodes have no hard edge
  silent : (a b : ℕ) → (a ≡ b → ⊥) → has (beside g.hard a) b ≡ false → (v w : ℕ) → node_at g v ≡ a → node_at g w ≡ b → has (beside o.hard v) w ≡ false
  silent a b d q v w e f = elim (cases_Bool (has (beside o.hard v) w)) [
    | inl h ↦ absurd (both_ways _ q (k.hard.each a b d (v, w, e, f, h)))
    | inr h ↦ h
  ]

  apart : (v w : ℕ) → node_at (joined low high g) v ≡ node_at (joined low high g) w → has (beside o.hard v) w ≡ false
  apart v w e = elim (cases_eq (node_at g v) high) [
    | inl p ↦ elim (cases_eq (node_at g w) high) [
      | inl q ↦ k.apart v w (p ∙ sym q)
      | inr q ↦ silent high low (omega arith) quiet-back v w p (sym (rests w q) ∙ sym e ∙ into v p)
    ]
    | inr p ↦ elim (cases_eq (node_at g w) high) [
      | inl q ↦ silent low high (omega arith) quiet v w (sym (rests v p) ∙ e ∙ into w q) q
      | inr q ↦ k.apart v w (sym (rests v p) ∙ e ∙ rests w q)
    ]
  ]

  pub kept_joined : Kept vars o (joined low high g)
  unfolding joined
  kept_joined = record {
    classes = k.classes;
    itself = itself;
    down = down;
    alike = alike;
    outside = outside;
    nodes = nodes;
    stays = stays;
    edges = gathers o.edges g.edges k.edges_long k.edges;
    hard = gathers o.hard g.hard k.hard_long k.hard;
    apart = apart;
    edges_long = contracted_long low high g.edges ∙ k.edges_long;
    hard_long = contracted_long low high g.hard ∙ k.hard_long;
    node_long = length-map g.node (moved low high) ∙ k.node_long;
  }

merged_joined : (x y low high : ℕ) (g : Graph) → low ≡ min x y → high ≡ max x y → merged x y g ≡ joined low high g
unfolding merged joined
merged_joined x y low high g l h = rw (l, h)

-- ---- merges of copies

module _ (vars : ℕ) (o : Graph) (p : Proper o) where
  -- a list of hard edges gathered from one that goes both ways goes both ways
  gathered_back : (es fs : List ℕ) (g : Graph) → ((v w : ℕ) → has (beside es v) w ≡ true → has (beside es w) v ≡ true) → Gathers es fs g → (a b : ℕ) → has (beside fs a) b ≡ true → has (beside fs b) a ≡ true
  gathered_back es fs g back h a b e =
      let (d, (x, y, q, r, f)) = h.only a b e in
      h.each b a (λ z. d (sym z)) (y, x, r, q, back x y f)

  module _ (g : Graph) (k : Kept vars o g) where
    silent_back : (a b : ℕ) → has (beside g.hard a) b ≡ false → has (beside g.hard b) a ≡ false
    silent_back a b e = elim (cases_Bool (has (beside g.hard b) a)) [
      | inl h ↦ absurd (both_ways _ e (gathered_back o.hard g.hard g p.hard_symmetric k.hard b a h))
      | inr h ↦ h
    ]

    -- the ends of a copy in two nodes without a hard edge between them
    pub kept_merged : (c : Ends) → Joins vars o c → (node_at g c.d ≡ node_at g c.a → ⊥) → has (beside g.hard (node_at g c.d)) (node_at g c.a) ≡ false →
        Kept vars o (merged (node_at g c.d) (node_at g c.a) g)
    kept_merged c j ne q =
        let x : ℕ = node_at g c.d in
        let y : ℕ = node_at g c.a in
        let xo : has o.nodes x ≡ true = k.stays c.d j.d_node in
        let yo : has o.nodes y ≡ true = k.stays c.a j.a_node in
        let same : class_at o x ≡ class_at o y = k.alike c.d ∙ j.alike ∙ sym (k.alike c.a) in
        elim (cases_lt x y) [
          | inl l ↦ subst (Kept vars o) (sym (merged_joined x y x y g (omega arith) (omega arith)))
              (kept_joined vars o g k x y l (p.below y yo) (omega (arith, k.down c.a, j.a_source)) (k.itself c.d) (k.itself c.a) xo same q (silent_back x y q))
          | inr l ↦ (let m : y < x = lower x y l ne in
              subst (Kept vars o) (sym (merged_joined x y y x g (omega arith) (omega arith)))
              (kept_joined vars o g k y x m (p.below x xo) (omega (arith, k.down c.d, j.d_source)) (k.itself c.a) (k.itself c.d) yo (sym same) (silent_back x y q) q))
        ]
      where
        lower : (x y : ℕ) → y ≤ x → (x ≡ y → ⊥) → y < x
        lower x y l ne = omega arith

  -- what a copy that may be merged shows
  may : (m : Model) (g : Graph) (x y : ℕ) → mergeable m g x y ≡ true → (x ≡ y → ⊥) × (has (beside g.hard x) y ≡ false)
  unfolding mergeable
  may m g x y h =
      let (a, _) = and_parts (not (eqb x y || has (beside g.hard x) y)) _ h in
      let (e, q) = or_parts (eqb x y) (has (beside g.hard x) y) (not-true _ a) in
      (eqb-false x y e, q)

  pub kept_coalesced : (m : Model) (cs : List Ends) → AllJoin vars o cs → (k : ℕ) (g : Graph) → Kept vars o g → Kept vars o (coalesced m cs k g)
  unfolding coalesced first_mergeable
  kept_coalesced m cs js zero g h = h
  kept_coalesced m cs js (suc k) g h =
      let t : ℕ → Bool = λ i. mergeable m g (node_at g (get_or cs i no_ends).d) (node_at g (get_or cs i no_ends).a) in
      let i : ℕ = least t (length cs) in
      let c : Ends = get_or cs i no_ends in
      elim (cases_lt i (length cs)) [
        | inl l ↦ (let (ne, q) = may m g (node_at g c.d) (node_at g c.a) (least_found t (length cs) l) in
            rw (lt-ltb i (length cs) l) (kept_coalesced m cs js k (merged (node_at g c.d) (node_at g c.a) g) (kept_merged g h c (js i l) ne q)))
        | inr l ↦ rw (le-ltb i (length cs) l) h
      ]

  -- ---- what was kept, in the subject's words

  module _ (g : Graph) (k : Kept vars o g) where
    shared : (v w : ℕ) → node_at g v ≡ node_at g w → (v ≡ w → ⊥) → w < vars
    shared v w e ne = elim (cases_lt w vars) [
      | inl l ↦ l
      | inr l ↦ (let ww = k.outside w l in
          elim (cases_lt v vars) [
            | inl a ↦ absurd (omega (arith, k.down v, e, ww))
            | inr a ↦ absurd (ne (sym (k.outside v a) ∙ e ∙ ww))
          ])
    ]

    pub coalesces : Coalesces vars o g
    coalesces = record {
      classes = k.classes;
      itself = k.itself;
      lowest = λ v w e. omega (arith, k.down w, e);
      alike = λ v w e. sym (k.alike v) ∙ ap (class_at o) e ∙ k.alike w;
      source = λ v w e ne. (shared w v (sym e) (λ z. ne (sym z)), shared v w e ne);
      nodes = k.nodes;
      member = λ v h. k.nodes (node_at g v) ∙ and_from _ _ (k.stays v h) (eq-eqb _ _ (k.itself v));
      edges = k.edges;
      hard = k.hard;
      apart = k.apart;
    }

    pub proper : Proper g
    proper = record {
      below = λ v h. rw k.classes (p.below v (and_parts (has o.nodes v) _ (sym (k.nodes v) ∙ h)).0);
      ends = λ v w h. (let (_, (x, y, _, e, f)) = k.edges.only v w h in subst (λ (z : ℕ). has g.nodes z ≡ true) e (coalesces.member y (p.ends x y f)));
      symmetric = gathered_back o.edges g.edges g p.symmetric k.edges;
      loopless = λ v. elim (cases_Bool (has (neighbours g v) v)) [ inl e ↦ absurd ((k.edges.only v v e).0 refl) | inr e ↦ e ];
      hard_symmetric = gathered_back o.hard g.hard g p.hard_symmetric k.hard;
      hard_edge = λ v w h. (let (d, (x, y, q, r, f)) = k.hard.only v w h in k.edges.each v w d (x, y, q, r, p.hard_edge x y f));
      edges_long = k.edges_long ∙ ap length (sym k.classes);
      hard_long = k.hard_long ∙ ap length (sym k.classes);
      node_long = k.node_long ∙ ap length (sym k.classes);
    }

pub merging_keeps : (m : Model) (vars : ℕ) (cs : List Ends) (k : ℕ) (o : Graph) → Proper o → Unmerged o → AllJoin vars o cs → Coalesces vars o (coalesced m cs k o) × Proper (coalesced m cs k o)
merging_keeps m vars cs k o p alone js =
    let h = kept_coalesced vars o p m cs js k o (kept_none vars o p alone) in
    (coalesces vars o p (coalesced m cs k o) h, proper vars o p (coalesced m cs k o) h)
