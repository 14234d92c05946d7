-- What rounds keep of the source; clashing places.
use Rattle.std.proofs.Common.{◌≡◌, ℕ, suc, true, false, List, get_or, sym, refl, ap, ◌∙◌, subst, inl, inr}
use Rattle.std.proofs.lemmas.Bool.{cases_Bool, cases_lt, both_ways, and_from, and_parts, cond-true, cond-false}
use Rattle.rows.specs.declared.Op.{Op}
use Rattle.rows.specs.declared.Row.{Row}
use Rattle.rows.specs.Rows.{shape, copies, row_at}
use Rattle.packing.proofs.Back.{reads_well}
use Rattle.registers.specs.Model.{Model, Lawful}
use Rattle.rounds.specs.Round.{Outcome, colours}
use Rattle.compiling.specs.declared.Home.{Home}
use Rattle.compiling.specs.declared.Home.TheVariants.{Open, Register, Slot}
use Rattle.compiling.specs.declared.Place.{Place}
use Rattle.compiling.specs.Working.{Working, Compiled, place_of, is_slot, number_of, spilled, round_of}
use Rattle.compiling.specs.Emit.{registers_of, places_coloured, emitted}
use Rattle.interfering.specs.Living.{read_at, lives_before}
use Rattle.interfering.specs.Edges.{Clashes, Hard}
use Rattle.interfering.proofs.Living.{after_only}
use Rattle.interfering.proofs.Starting.{admitted_read}
use Rattle.simulation.specs.Static.{Apart, slot_of}
use Rattle.standing.proofs.Keeping.{standing_bounded}
use Rattle.transfer.specs.Sharing.{Quiet}
use Rattle.transfer.specs.Transfer.{Unplaced}
use Rattle.transfer.proofs.Parts.{read_a, goes_which, write_which, is_copy, writes_below}
use Rattle.transfer.proofs.Living.{liveness_transfers}
use Rattle.transfer.proofs.Clashing.{hard_edges_transfer}
use Rattle.transfer.proofs.Settling.{edges_transfer}
use Rattle.assembling.specs.Assembling.{InOrder, register_in}
use Rattle.assembling.specs.Rounds.{turn}
use Rattle.assembling.proofs.Apart.{registers_apart}
use Rattle.assembling.proofs.Rounds.{coloured_at, coloured_past}
use Rattle.agreement.specs.Places.{RoundsFaithful, is_register, registered, Clash, ClashesHarmless}
use Rattle.agreement.proofs.Induction.{Held, held, upright, ends, admitted_first}

pub rounds_faithful : RoundsFaithful
rounds_faithful files lawful bs p read w r =
    let h = held files lawful p (reads_well bs p (admitted_read bs p read)) w r in
    let st = h.standing in
    record {
      bounded = standing_bounded w h.start st;
      start = h.start;
      live = liveness_transfers w h.start st;
      hard = hard_edges_transfer w h.start st;
      edges = edges_transfer w h.start st;
    }

-- ---- a clash of rows

-- row i writes u while v is live behind it, and is no copy of v
pub record Hit (rows : List Row) (i u v : ℕ) : Type 0 where
  pub writes : (shape (row_at rows i).op).d ≡ true
  pub is : u ≡ (row_at rows i).d
  pub live : lives_before rows (suc i) v ≡ true
  pub other : v ≡ (row_at rows i).d → ⊥
  pub no_copy : copies (row_at rows i).op ≡ true → v ≡ (row_at rows i).a → ⊥

hit : (rows : List Row) (i u v : ℕ) → Clashes rows i u v → Hit rows i u v
hit rows i u v ((wr, lv, ne), c) =
    let (x, e) = write_which (row_at rows i) u wr in
    let (j, g, lj) = after_only rows i v lv in
    record {
      writes = x;
      is = e;
      live = elim (goes_which i (row_at rows i) j g) [
        | inl (z, _) ↦ absurd (both_ways _ (writes_below _ x).0 z)
        | inr (_, s) ↦ subst (λ (k : ℕ). lives_before rows k v ≡ true) s lj
      ];
      other = λ k. ne (e ∙ sym k);
      no_copy = λ cp k. both_ways _ c (and_from _ _ cp (subst (λ (y : ℕ). read_at rows i y ≡ true) (sym k) (read_a (row_at rows i) (ap (λ (o : Op). (shape o).a) (is_copy _ cp)))));
    }

-- ---- slots

quiet_slot : (w : Working) → Quiet w → (i u v : ℕ) → spilled w.places u ≡ true → spilled w.places v ≡ true → slot_of w.places u ≡ slot_of w.places v → Hit w.source.rows i u v → ⊥
quiet_slot w q i u v su sv e h =
    let (cp, k) = q i v h.writes (subst (λ (x : ℕ). spilled w.places x ≡ true) h.is su) h.live h.other sv (sym e ∙ ap (slot_of w.places) h.is) in
    h.no_copy cp k

-- ---- registers

apart_register : (m : Model) (rows : List Row) (reg : ℕ → ℕ) → Apart m (row_at rows) (lives_before rows) reg → (i u v : ℕ) → m.overlaps (reg u) (reg v) ≡ true → Hit rows i u v → ⊥
apart_register m rows reg apart i u v over h = elim (apart.apart i v h.writes h.live h.other) [
  | inl clear ↦ both_ways _ clear (subst (λ (x : ℕ). m.overlaps (reg x) (reg v) ≡ true) h.is over)
  | inr (idles, k) ↦ h.no_copy (and_parts (copies (row_at rows i).op) _ idles).0 k
]

-- ---- the places of a round that coloured

slot_no_register : (x : Home) → is_slot x ≡ true → is_register x ≡ false
slot_no_register (Slot n) h = refl
slot_no_register Open h = refl
slot_no_register (Register n) h = absurd (both_ways false refl h)

module _ (w : Working) (o : Outcome) where
  slot_was : (v : ℕ) → spilled (places_coloured w o) v ≡ true → (spilled w.places v ≡ true) × (slot_of (places_coloured w o) v ≡ slot_of w.places v)
  slot_was v h = elim (cases_lt v w.source.vars) [
    | inr l ↦ absurd (both_ways false refl (subst (λ (x : Place). is_slot x.home ≡ true) (coloured_past w o v l) h))
    | inl l ↦ elim (cases_Bool (spilled w.places v)) [
      | inl e ↦ (e, ap (λ (x : Place). number_of x.home) (coloured_at w o v l ∙ cond-true (spilled w.places v) _ _ e))
      | inr e ↦ absurd (both_ways false refl (subst (λ (x : Place). is_slot x.home ≡ true) (coloured_at w o v l ∙ cond-false (spilled w.places v) _ _ e) h))
    ]
  ]

  register_was : (v : ℕ) → registered (places_coloured w o) v ≡ true → Unplaced w v × (number_of (place_of (places_coloured w o) v).home ≡ get_or (registers_of o) v 0)
  register_was v h = elim (cases_lt v w.source.vars) [
    | inr l ↦ absurd (both_ways false refl (subst (λ (x : Place). is_register x.home ≡ true) (coloured_past w o v l) h))
    | inl l ↦ elim (cases_Bool (spilled w.places v)) [
      | inl e ↦ absurd (both_ways _ (slot_no_register (place_of w.places v).home e) (subst (λ (x : Place). is_register x.home ≡ true) (coloured_at w o v l ∙ cond-true (spilled w.places v) _ _ e) h))
      | inr e ↦ ((l, e), ap (λ (x : Place). number_of x.home) (coloured_at w o v l ∙ cond-false (spilled w.places v) _ _ e))
    ]
  ]

module _ (m : Model) (lawful : Lawful m) (w : Working) (h : Held w) (apart : Apart m (row_at w.rows) (lives_before w.rows) (register_in m w)) where
  abbrev places : List Place
  places = places_coloured w (round_of m w)

  one_slot : (u v : ℕ) → spilled places u ≡ true → spilled places v ≡ true → slot_of places u ≡ slot_of places v → Hard w.source.rows u v → ⊥
  one_slot u v su sv e (i, c) =
      let (ou, eu) = slot_was w (round_of m w) u su in
      let (ov, ev) = slot_was w (round_of m w) v sv in
      let same : slot_of w.places u ≡ slot_of w.places v = sym eu ∙ (e ∙ ev) in
      elim c [
        | inl k ↦ quiet_slot w h.quiet i u v ou ov same (hit w.source.rows i u v k)
        | inr k ↦ quiet_slot w h.quiet i v u ov ou (sym same) (hit w.source.rows i v u k)
      ]

  over : (u v : ℕ) → m.overlaps (register_in m w u) (register_in m w v) ≡ true → Hard w.rows u v → ⊥
  over u v o (i, c) = elim c [
    | inl k ↦ apart_register m w.rows (register_in m w) apart i u v o (hit w.rows i u v k)
    | inr k ↦ apart_register m w.rows (register_in m w) apart i v u (lawful.both_ways _ _ o) (hit w.rows i v u k)
  ]

  overlapping : (u v : ℕ) → registered places u ≡ true → registered places v ≡ true → m.overlaps (number_of (place_of places u).home) (number_of (place_of places v).home) ≡ true → Hard w.source.rows u v → ⊥
  overlapping u v ru rv o hard =
      let (uu, eu) = register_was w (round_of m w) u ru in
      let (uv, ev) = register_was w (round_of m w) v rv in
      over u v (subst (λ (y : ℕ). m.overlaps (register_in m w u) y ≡ true) ev (subst (λ (x : ℕ). m.overlaps x (number_of (place_of places v).home) ≡ true) eu o)) ((hard_edges_transfer w h.start h.standing u v uu uv).into hard)

  no_hard : (u v : ℕ) → Clash m places u v → Hard w.source.rows u v → ⊥
  no_hard u v (inl (su, sv, e)) hard = one_slot u v su sv e hard
  no_hard u v (inr (ru, rv, o)) hard = overlapping u v ru rv o hard

-- variables whose places clash have no hard edge in the source
abbrev Harmless : (ℕ → Model) → Compiled → Type 0
Harmless files c = (u v : ℕ) → Clash (files c.rounds) c.places u v → Hard c.source.rows u v → ⊥

emitted_harmless : (files : ℕ → Model) → ((i : ℕ) → Lawful (files i)) → (w : Working) → Held w → InOrder (files (suc w.rounds)) w → colours (turn files w) ≡ true → Harmless files (emitted w (turn files w))
unfolding emitted
emitted_harmless files lawful w h ok done = no_hard (files (suc w.rounds)) (lawful (suc w.rounds)) w h (registers_apart (files (suc w.rounds)) w ok done)

pub clashes_harmless : ClashesHarmless
clashes_harmless files lawful bs c h =
    let (p, read, is) = admitted_first files bs c h in
    let well = reads_well bs p (admitted_read bs p read) in
    let e = ends files lawful p well in
    let w = e.last in
    subst (Harmless files) (sym (is ∙ e.code)) (emitted_harmless files lawful w (held files lawful p well w e.has_P) (upright files lawful p well w e.has_P).0 e.done)
