-- The merged graph of a round.
use Rattle.std.proofs.Common.{◌≡◌, ℕ, zero, suc, ◌<◌, true, false, ◌&&◌, ltb, List, [], ◌∷◌, length, get_or, sym, refl, ap, ◌∙◌, inl, inr, arith}
use Rattle.std.proofs.lemmas.Bool.{cases_Bool, both_ways, and_parts, eq-eqb, ltb-true}
use Rattle.sets.specs.Sets.{has}
use Rattle.rows.specs.declared.Op.{Op}
use Rattle.rows.specs.declared.Op.TheVariants.{End, Const, Copy, Add, Sub, And, Xor, Widen, Narrow, Input, Output, Jump, Less, Load, Store}
use Rattle.rows.specs.declared.Row.{Row}
use Rattle.rows.specs.Rows.{copies, shape, reads, writes, row_at}
use Rattle.facts.specs.Flow.{holds}
use Rattle.registers.specs.Model.{Model}
use Rattle.rounds.specs.declared.Ends.{Ends}
use Rattle.rounds.specs.Liveness.{live_after}
use Rattle.rounds.specs.Interference.{node_at, interference}
use Rattle.rounds.specs.Coalescing.{copies_in, no_ends}
use Rattle.rounds.specs.Round.{graph_of}
use Rattle.interfering.specs.Edges.{Names, Proper, Hard}
use Rattle.interfering.proofs.Edges.{interferes, proper as rows-proper}
use Rattle.merging.specs.Merging.{AllJoin, Coalesces, Alike}
use Rattle.merging.proofs.Merging.{merging_keeps}

-- the one opcode that copies
pub copy_is : (o : Op) → copies o ≡ true → o ≡ Copy
copy_is End h = absurd (both_ways false refl h)
copy_is Const h = absurd (both_ways false refl h)
copy_is Copy h = refl
copy_is Add h = absurd (both_ways false refl h)
copy_is Sub h = absurd (both_ways false refl h)
copy_is And h = absurd (both_ways false refl h)
copy_is Xor h = absurd (both_ways false refl h)
copy_is Widen h = absurd (both_ways false refl h)
copy_is Narrow h = absurd (both_ways false refl h)
copy_is Input h = absurd (both_ways false refl h)
copy_is Output h = absurd (both_ways false refl h)
copy_is Jump h = absurd (both_ways false refl h)
copy_is Less h = absurd (both_ways false refl h)
copy_is Load h = absurd (both_ways false refl h)
copy_is Store h = absurd (both_ways false refl h)

-- a copy reads a and writes d
copy_reads : (r : Row) → copies r.op ≡ true → holds (reads r) r.a ≡ true
unfolding holds
copy_reads r h =
    let s : (shape r.op).a ≡ true = ap (λ (o : Op). (shape o).a) (copy_is r.op h) in
    rw (s, eq-eqb r.a r.a refl)

copy_writes : (r : Row) → copies r.op ≡ true → holds (writes r) r.d ≡ true
unfolding holds
copy_writes r h =
    let s : (shape r.op).d ≡ true = ap (λ (o : Op). (shape o).d) (copy_is r.op h) in
    rw (s, eq-eqb r.d r.d refl)

-- a row is the one that a copy of the list came from
pub record From (vars : ℕ) (rows : List Row) (c : Ends) (j : ℕ) : Type 0 where
  pub copy : copies (row_at rows j).op ≡ true
  pub d_is : c.d ≡ (row_at rows j).d
  pub a_is : c.a ≡ (row_at rows j).a
  pub d_source : c.d < vars
  pub a_source : c.a < vars

next_row_lem : (vars : ℕ) (r : Row) (rows : List Row) (c : Ends) → (j : ℕ) × From vars rows c j → (j : ℕ) × From vars (r ∷ rows) c j
next_row_lem vars r rows c (j, f) = (suc j, record { copy = f.copy; d_is = f.d_is; a_is = f.a_is; d_source = f.d_source; a_source = f.a_source })

-- a copy in the list is that of some row
pub copy_row : (vars : ℕ) (rows : List Row) (i : ℕ) → i < length (copies_in vars rows) → (j : ℕ) × From vars rows (get_or (copies_in vars rows) i no_ends) j
unfolding copies_in
copy_row vars [] i l = absurd (omega arith)
copy_row vars (r ∷ rs) zero l = elim (cases_Bool (copies r.op && (ltb r.d vars && ltb r.a vars))) [
  | inl e ↦ (let (c, ends) = and_parts (copies r.op) _ e in
      let (x, y) = and_parts (ltb r.d vars) _ ends in
      rw e (0, record { copy = c; d_is = refl; a_is = refl; d_source = ltb-true _ _ x; a_source = ltb-true _ _ y }))
  | inr e ↦ (let k : 0 < length (copies_in vars rs) = rw e at l in
      rw e (next_row_lem vars r rs (get_or (copies_in vars rs) 0 no_ends) (copy_row vars rs 0 k)))
]
copy_row vars (r ∷ rs) (suc i) l = elim (cases_Bool (copies r.op && (ltb r.d vars && ltb r.a vars))) [
  | inl e ↦ (let k : suc i < suc (length (copies_in vars rs)) = rw e at l in
      rw e (next_row_lem vars r rs (get_or (copies_in vars rs) i no_ends) (copy_row vars rs i (omega arith))))
  | inr e ↦ (let k : suc i < length (copies_in vars rs) = rw e at l in
      rw e (next_row_lem vars r rs (get_or (copies_in vars rs) (suc i) no_ends) (copy_row vars rs (suc i) k)))
]

module _ (m : Model) (vars : ℕ) (classes : List ℕ) (nodes : ℕ) (rows : List Row) (names : Names classes nodes rows) (alike : Alike classes rows) where
  joins : AllJoin vars (interference classes nodes rows (live_after rows)) (copies_in vars rows)
  unfolding interference
  joins i l =
      let (j, f) = copy_row vars rows i l in
      let d : has nodes (get_or (copies_in vars rows) i no_ends).d ≡ true = ap (has nodes) f.d_is ∙ names.named j (row_at rows j).d (inr (copy_writes (row_at rows j) f.copy)) in
      let a : has nodes (get_or (copies_in vars rows) i no_ends).a ≡ true = ap (has nodes) f.a_is ∙ names.named j (row_at rows j).a (inl (copy_reads (row_at rows j) f.copy)) in
      record {
        d_source = f.d_source;
        a_source = f.a_source;
        d_node = d;
        a_node = a;
        alike = ap (λ (x : ℕ). get_or classes x 0) f.d_is ∙ alike j f.copy ∙ ap (λ (x : ℕ). get_or classes x 0) (sym f.a_is);
      }

  pub round_merges : Coalesces vars (interference classes nodes rows (live_after rows)) (graph_of m vars classes nodes rows) × Proper (graph_of m vars classes nodes rows)
  unfolding graph_of
  round_merges = merging_keeps m vars (copies_in vars rows) vars (interference classes nodes rows (live_after rows)) (rows-proper classes nodes rows names) (interferes classes nodes rows names).alone joins

  pub no_hard_edge_inside : (v w : ℕ) → node_at (graph_of m vars classes nodes rows) v ≡ node_at (graph_of m vars classes nodes rows) w → Hard rows v w → ⊥
  no_hard_edge_inside v w e h = both_ways _ (round_merges.0.apart v w e) ((interferes classes nodes rows names).hard_each v w h)

  pub members_share : (v w : ℕ) → node_at (graph_of m vars classes nodes rows) v ≡ node_at (graph_of m vars classes nodes rows) w → get_or classes v 0 ≡ get_or classes w 0
  unfolding interference
  members_share v w e = round_merges.0.alike v w e
