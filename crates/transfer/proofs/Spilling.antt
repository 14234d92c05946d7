-- What a round spills are nodes of source variables that had no slot: what is no node is never merged.
use Rattle.std.proofs.Common.{◌≡◌, ℕ, zero, suc, ◌+◌, ◌-◌, ◌<◌, ◌≤◌, min, max, Bool, true, false, cond, not, ◌&&◌, ◌||◌, eqb, ltb, ◌⊎◌, List, [], ◌∷◌, map, length, get_or, sym, refl, ap, ◌∙◌, subst, inl, inr, arith}
use Rattle.std.proofs.lemmas.List.{get_or_past, get_or-map, length-map}
use Rattle.std.proofs.lemmas.Bool.{cases_Bool, cases_lt, cases_eq, both_ways, and_parts, and_right, lt-ltb, le-ltb, eqb-true, not_from_true}
use Rattle.counting.specs.Counting.{least}
use Rattle.counting.proofs.Searches.{least_found}
use Rattle.sets.specs.Sets.{has}
use Rattle.rows.specs.declared.Op.{Op}
use Rattle.rows.specs.declared.Row.{Row}
use Rattle.rows.specs.Rows.{shape, copies, row_at}
use Rattle.registers.specs.Model.{Model, Lawful}
use Rattle.rounds.specs.declared.Ends.{Ends}
use Rattle.rounds.specs.Liveness.{live_after}
use Rattle.rounds.specs.Interference.{Graph, node_at, interference}
use Rattle.rounds.specs.Coalescing.{merged, mergeable, no_ends, copies_in, first_mergeable, coalesced}
use Rattle.rounds.specs.Round.{Outcome, graph_of, round}
use Rattle.compiling.specs.Working.{Working, spilled, unspilled, round_of}
use Rattle.interfering.specs.Edges.{Names}
use Rattle.interfering.proofs.Edges.{interferes}
use Rattle.merging.specs.Merging.{Coalesces}
use Rattle.merging.proofs.Contracting.{moved, moved_high, moved_other}
use Rattle.merging.proofs.Rounds.{From, copy_row, round_merges}
use Rattle.standing.specs.Standing.{Standing, Spills}
use Rattle.transfer.specs.Paired.{ThreeClasses, graph_before, graph_after}
use Rattle.transfer.specs.Settling.{RoundsSpill}
use Rattle.transfer.proofs.Parts.{read_a, write_d, is_copy}
use Rattle.transfer.proofs.Pairing.{node_has, names, alike}
use Rattle.transfer.proofs.Settling.{rounds_settle}

-- nodes stay among those that pass t, and what does not pass stays alone
pub record Bound (t : ℕ → Bool) (g : Graph) : Type 0 where
  pub alone : (v : ℕ) → t v ≡ false → node_at g v ≡ v
  pub stays : (v : ℕ) → t v ≡ true → t (node_at g v) ≡ true

module _ (t : ℕ → Bool) where
  follows : (x y : ℕ) (g : Graph) (v : ℕ) → (node_at (merged x y g) v ≡ v) ⊎ (node_at (merged x y g) v ≡ moved (min x y) (max x y) (node_at g v))
  unfolding merged
  follows x y g v = elim (cases_lt v (length g.node)) [
    | inl l ↦ inr (get_or-map (moved (min x y) (max x y)) g.node v v v l)
    | inr l ↦ inl (get_or_past (map (moved (min x y) (max x y)) g.node) v v (rw (length-map g.node (moved (min x y) (max x y))) l))
  ]

  either : (x y : ℕ) → t x ≡ true → t y ≡ true → (t (min x y) ≡ true) × (t (max x y) ≡ true)
  either x y a b = elim (cases_lt x y) [
    | inl l ↦ (let e : min x y ≡ x = omega arith in let f : max x y ≡ y = omega arith in (rw e a, rw f b))
    | inr l ↦ (let e : min x y ≡ y = omega arith in let f : max x y ≡ x = omega arith in (rw e b, rw f a))
  ]

  bound_merged : (x y : ℕ) (g : Graph) → t x ≡ true → t y ≡ true → Bound t g → Bound t (merged x y g)
  bound_merged x y g a b h = let (low, high) = either x y a b in record {
    alone = λ v n. elim (follows x y g v) [
      | inl e ↦ e
      | inr e ↦ e ∙ ap (moved (min x y) (max x y)) (h.alone v n) ∙ moved_other (min x y) (max x y) v (λ z. both_ways _ n (ap t z ∙ high))
    ];
    stays = λ v n. elim (follows x y g v) [
      | inl e ↦ ap t e ∙ n
      | inr e ↦ elim (cases_eq (node_at g v) (max x y)) [
        | inl z ↦ ap t (e ∙ moved_high (min x y) (max x y) (node_at g v) z) ∙ low
        | inr z ↦ ap t (e ∙ moved_other (min x y) (max x y) (node_at g v) z) ∙ h.stays v n
      ]
    ];
  }

  bound_coalesced : (m : Model) (cs : List Ends) → ((i : ℕ) → i < length cs → (t (get_or cs i no_ends).d ≡ true) × (t (get_or cs i no_ends).a ≡ true)) → (k : ℕ) (g : Graph) → Bound t g → Bound t (coalesced m cs k g)
  unfolding coalesced first_mergeable
  bound_coalesced m cs js zero g h = h
  bound_coalesced m cs js (suc k) g h =
      let s : ℕ → Bool = λ i. mergeable m g (node_at g (get_or cs i no_ends).d) (node_at g (get_or cs i no_ends).a) in
      let i : ℕ = least s (length cs) in
      let c : Ends = get_or cs i no_ends in
      elim (cases_lt i (length cs)) [
        | inl l ↦ (let (d, a) = js i l in
            rw (lt-ltb i (length cs) l) (bound_coalesced m cs js k (merged (node_at g c.d) (node_at g c.a) g) (bound_merged (node_at g c.d) (node_at g c.a) g (h.stays c.d d) (h.stays c.a a) h)))
        | inr l ↦ rw (le-ltb i (length cs) l) h
      ]

module _ (m : Model) (w : Working) (start : ℕ → ℕ) (st : Standing w start) where
  ends_nodes : (i : ℕ) → i < length (copies_in w.source.vars w.rows) →
      (has (unspilled w) (get_or (copies_in w.source.vars w.rows) i no_ends).d ≡ true) × (has (unspilled w) (get_or (copies_in w.source.vars w.rows) i no_ends).a ≡ true)
  ends_nodes i l =
      let (j, f) = copy_row w.source.vars w.rows i l in
      let op = is_copy (row_at w.rows j).op f.copy in (
        ap (has (unspilled w)) f.d_is ∙ (names w start st).named j (row_at w.rows j).d (inr (write_d (row_at w.rows j) (ap (λ (o : Op). (shape o).d) op))),
        ap (has (unspilled w)) f.a_is ∙ (names w start st).named j (row_at w.rows j).a (inl (read_a (row_at w.rows j) (ap (λ (o : Op). (shape o).a) op))),
      )

  pub bound : Bound (has (unspilled w)) (graph_after m w)
  unfolding graph_of
  bound = bound_coalesced (has (unspilled w)) m (copies_in w.source.vars w.rows) ends_nodes w.source.vars (graph_before w)
      (let own = (interferes w.classes (unspilled w) w.rows (names w start st)).alone in record { alone = λ v _. own v; stays = λ v h. ap (has (unspilled w)) (own v) ∙ h })

  -- a node of the merged graph was one before, and stands for itself
  pub was_node : (v : ℕ) → has (graph_after m w).nodes v ≡ true → (has (unspilled w) v ≡ true) × (node_at (graph_after m w) v ≡ v)
  unfolding interference
  was_node v h =
      let k = (round_merges m w.source.vars w.classes (unspilled w) w.rows (names w start st) (alike w start st)).0 in
      let (a, b) = and_parts (has (unspilled w) v) _ (sym (k.nodes v) ∙ h) in
      (a, eqb-true _ _ b)

  out_node : (v : ℕ) → spilled w.places v ≡ true → has (unspilled w) v ≡ false
  out_node v s = node_has w v ∙ and_right (ltb v (length w.classes)) _ (not_from_true _ s)

  pub spills : Lawful m → ThreeClasses w → Spills w (round_of m w)
  unfolding round_of round
  spills lawful three =
      let s = rounds_settle m lawful w start st three in
      record {
        own = λ v h. (s.spilled_source v h, (was_node v (s.spilled_node v h)).1);
        members = λ v l h. elim (cases_Bool (spilled w.places v)) [
          | inr e ↦ e
          | inl e ↦ (let n = out_node v e in
              let z : node_at (graph_after m w) v ≡ v = bound.alone v n in
              absurd (both_ways _ n (ap (has (unspilled w)) (sym z) ∙ (was_node _ (s.spilled_node _ h)).0)))
        ];
      }

pub rounds_spill : RoundsSpill
rounds_spill m lawful w start st three = spills m w start st lawful three
