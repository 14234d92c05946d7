-- Blocks and registers together, over whole runs.
use Rattle.std.proofs.Common.{◌≡◌, ℕ, zero, suc, ◌+◌, ◌-◌, ◌*◌, ◌%◌, ◌^◌, ◌<◌, ◌≤◌, Bool, true, false, cond, ◌&&◌, ltb, ◌⊎◌, List, length, sym, refl, ap, ◌∙◌, subst, inl, inr, zero-add, arith, pow_pos}
use Rattle.std.proofs.lemmas.Bool.{cases_Bool, cases_lt, and_parts, both_ways, false≢true, lt-ltb, le-ltb}
use Rattle.rows.specs.declared.Row.{Row}
use Rattle.rows.specs.Rows.{copies, bits, Program}
use Rattle.registers.specs.Model.{Model}
use Rattle.compiling.specs.declared.Place.{Place}
use Rattle.compiling.specs.Emit.{idle}
use Rattle.machine.specs.declared.Outcome.TheVariants.{Running}
use Rattle.machine.specs.Machine.{is_running, put}
use Rattle.machine.specs.Players.{Player, running, at, writes_now, next_row, stepped}
use Rattle.machine.specs.Agreement.{Begins}
use Rattle.machine.proofs.Effects.{rests, jumped_may, falls_may}
use Rattle.simulation.specs.Static.{row_of, class_of, Sound, Lively, Shares, Stands}
use Rattle.simulation.proofs.Effects.{put_same, put_other, begins_same, begins_trans, grows, copy_next, step_rests, step_row}
use Rattle.simulation.proofs.Carry.{Plays, Given, IsCode, Matched, kept, passed}
use Rattle.simulation.proofs.Blocks.{Like, Goes, carried}

-- n rows of the source player, one after another
abbrev pub turns : (ℕ → Row) → Player → ℕ → Player
turns w p zero = p
turns w p (suc n) = stepped w (turns w p n)

-- n rows of code, on a bank
abbrev pub Chain : Model → (ℕ → Row) → Player → ℕ → Player → Type 0
Chain f code c zero e = c ≡ e
Chain f code c (suc n) e = (x : Player) × Plays f code c x × Chain f code x n e

-- what a source program, a bank and rows of code have to do with each other
pub record Met (s : Program) (f : Model) (code : ℕ → Row) : Type 0 where
  pub h : List Place
  pub w : ℕ → Row
  pub start : ℕ → ℕ
  pub live : ℕ → ℕ → Bool
  pub live_w : ℕ → ℕ → Bool
  pub reg : ℕ → ℕ
  pub sound : Sound s
  pub lively : Lively (row_of s) live
  pub none_live : (v : ℕ) → live 0 v ≡ false
  pub slots_ok : Shares s live h
  pub stands : (i : ℕ) → i < length s.rows → Stands s h w start i
  pub at_first : start 0 ≡ 0
  pub lively_w : Lively w live_w
  pub apart : Given f w live_w reg
  pub self : (r : ℕ) → r < f.count → f.overlaps r r ≡ true
  pub is_code : IsCode reg w code

-- both players at row 0 with one input
pub record Starts (p c : Player) : Type 0 where
  pub p_row : p.row ≡ 0
  pub c_row : c.row ≡ 0
  pub p_numbers : (v : ℕ) → p.numbers v ≡ 0
  pub input : c.shared.input ≡ p.shared.input
  pub output : c.shared.output ≡ p.shared.output
  pub p_outcome : p.shared.outcome ≡ Running
  pub c_outcome : c.shared.outcome ≡ Running

abbrev pub Even : Player → Player → Type 0
Even p e = (e.shared.outcome ≡ p.shared.outcome) × (e.shared.output ≡ p.shared.output)

module _ (f : Model) (code : ℕ → Row) where
  chain_split : (a b k : ℕ) (c e : Player) → a + b ≡ k → Chain f code c k e → (x : Player) × Chain f code c a x × Chain f code x b e
  chain_split zero b k c e q ch = (c, refl, subst (λ j. Chain f code c j e) (sym q ∙ zero-add b) ch)
  chain_split (suc a) b zero c e q ch = absurd (omega arith)
  chain_split (suc a) b (suc k) c e q (x, pl, ch) =
      let r = chain_split a b k x e (omega arith) ch in
      (r.0, (x, pl, r.1), r.2)

  pub chain_join : (a b k : ℕ) (c x e : Player) → a + b ≡ k → Chain f code c a x → Chain f code x b e → Chain f code c k e
  chain_join zero b k c x e q one two = subst (λ j. Chain f code c j e) (sym (zero-add b) ∙ q) (subst (λ y. Chain f code y b e) (sym one) two)
  chain_join (suc a) b zero c x e q one two = absurd (omega arith)
  chain_join (suc a) b (suc k) c x e q (y, pl, one) two = (y, pl, chain_join a b k y x e (omega arith) one two)

  chain_grows : (k : ℕ) (c e : Player) → Chain f code c k e → Begins c.shared.output e.shared.output
  chain_grows zero c e q = rw q (begins_same e.shared.output)
  chain_grows (suc k) c e (x, pl, ch) = begins_trans c.shared.output x.shared.output e.shared.output
      (rw pl.shared_is (grows (code c.row) _ _ c.shared)) (chain_grows k x e ch)

  chain_rests : (k : ℕ) (c e : Player) → running c ≡ false → Chain f code c k e → e.shared ≡ c.shared
  chain_rests zero c e z q = ap (λ x. x.shared) (sym q)
  chain_rests (suc k) c e z (x, pl, ch) =
      let same : x.shared ≡ c.shared = pl.shared_is ∙ ap (λ u. u.shared) (rests (code c.row) _ _ c.shared z) in
      chain_rests k x e (rw same z) ch ∙ same

  module _ (self : (r : ℕ) → r < f.count → f.overlaps r r ≡ true) where
    onward : Player → Player
    onward c = record {
      row = next_row code c;
      numbers = cond (writes_now code c && ltb (code c.row).d f.count) (put c.numbers (code c.row).d ((at code c).value % 2 ^ (f.width (code c.row).d))) c.numbers;
      shared = (at code c).shared;
    }

    onward_plays : (c : Player) → Plays f code c (onward c)
    unfolding onward
    onward_plays c = record {
      row_is = refl;
      shared_is = refl;
      keeps = λ z. rw z refl;
      writes = λ z b. rw (z, lt-ltb (code c.row).d f.count b) (put_same c.numbers _ _ (code c.row).d refl);
      spares = λ z s o. elim (cases_lt (code c.row).d f.count) [
        | inl b ↦ rw (z, lt-ltb (code c.row).d f.count b) (put_other c.numbers _ _ s (λ q. false≢true (sym o ∙ ap (f.overlaps (code c.row).d) q ∙ self _ b)))
        | inr b ↦ rw (z, le-ltb (code c.row).d f.count b) refl
      ];
    }

    extend : (k : ℕ) (c : Player) → (e : Player) × Chain f code c k e
    extend zero c = (c, refl)
    extend (suc k) c = let r = extend k (onward c) in (r.0, (onward c, onward_plays c, r.1))

-- a block's rows, and the rows of code that they leave
module _ (f : Model) (w code : ℕ → Row) (live : ℕ → ℕ → Bool) (reg : ℕ → ℕ) (lv : Lively w live) (ok : Given f w live reg) (ic : IsCode reg w code) where
  record Left (m e : Player) (l k : ℕ) : Type 0 where
    most : k ≤ l
    some : copies (w m.row).op ≡ false → 0 < l → 0 < k
    carry : (c x : Player) → Matched w live reg m c → Chain f code c k x → Matched w live reg e x

  left : (l : ℕ) (m e : Player) → Goes w m l e → (k : ℕ) × Left m e l k
  left zero m e st = (0, record { most = omega arith; some = λ _ h. h; carry = λ c x mt q. subst (λ y. Matched w live reg y x) st (subst (λ y. Matched w live reg m y) q mt) })
  left (suc l) m e (ft, st) =
      let (k, lf) = left l (stepped w m) e st in
      elim (cases_Bool (idle reg (w m.row))) [
        | inl dr ↦ (let cp = (and_parts _ _ dr).0 in (
          k,
          record {
            most = omega (arith, lf.most);
            some = λ nc. absurd (both_ways _ nc cp);
            carry = λ c x mt ch. lf.carry c x (passed f w code live reg lv ok ic m c mt dr (ft cp).0 (ft cp).1) ch;
          },
        ))
        | inr kp ↦ (
          suc k,
          record {
            most = omega (arith, lf.most);
            some = λ _ _. omega arith;
            carry = λ c x mt ch. lf.carry ch.0 x (kept f w code live reg lv ok ic m c ch.0 mt kp ch.1) ch.2;
          },
        )
      ]

module _ (s : Program) (f : Model) (code : ℕ → Row) (k : Met s f code) (p c : Player) (st : Starts p c) where
  -- after n source rows: a working player, and how many rows of code
  record Reached (n : ℕ) (q m : Player) (j : ℕ) : Type 0 where
    like : Like s k.live k.h k.start q m
    code_at : (e : Player) → Chain f code c j e → Matched k.w k.live_w k.reg m e
    most : j ≤ 4 * n
    pace : running q ≡ true → n ≤ 128 * j + q.row
    within : q.row < length s.rows

  first : Player
  first = record { row = 0; numbers = λ v. c.numbers (k.reg v); shared = c.shared }

  reached_first : Reached 0 p first 0
  unfolding first
  reached_first = record {
    like = record {
      input_as = st.input;
      output_as = st.output;
      outcome_as = st.c_outcome ∙ sym st.p_outcome;
      row_as = λ _. sym k.at_first ∙ ap k.start (sym st.p_row);
      holds = λ _ v b l. absurd (both_ways _ (k.none_live v) (rw st.p_row at l));
      small = λ v. rw (st.p_numbers v) (pow_pos (bits (class_of s v)));
    };
    code_at = λ e q. subst (λ y. Matched k.w k.live_w k.reg first y) q (record { row_as = st.c_row; shared_as = refl; holds = λ v l. refl });
    most = omega arith;
    pace = λ _. omega arith;
    within = rw st.p_row k.sound.some;
  }

  within_next : (q : Player) → q.row < length s.rows → next_row (row_of s) q < length s.rows
  within_next q b = elim (cases_Bool (at (row_of s) q).ran) [
    | inr z ↦ rw z b
    | inl z ↦ rw z (elim (cases_Bool (at (row_of s) q).jumped) [
      | inl t ↦ rw t (k.sound.target q.row b (jumped_may (row_of s q.row) _ _ q.shared t))
      | inr t ↦ rw t (k.sound.below q.row b (falls_may (row_of s q.row) _ _ q.shared z t))
    ])
  ]

  reached_more : (n : ℕ) (q m : Player) (j : ℕ) → Reached n q m j → (e : Player) × (i : ℕ) × Reached (suc n) (stepped (row_of s) q) e i
  reached_more n q m j r = elim (cases_Bool (running q)) [
    | inr z ↦
        (let same = step_rests (row_of s) q z in (
          m,
          j,
          rw same (record {
            like = r.like;
            code_at = r.code_at;
            most = omega (arith, r.most);
            pace = λ d. absurd (both_ways _ z d);
            within = r.within;
          }),
        ))
    | inl z ↦
        (let (l, e, cr) = carried s k.sound k.live k.lively k.h k.slots_ok k.w k.start q m r.like z (k.stands q.row r.within) in
        let (i, lf) = left f k.w code k.live_w k.reg k.lively_w k.apart k.is_code l m e cr.steps in (
          e,
          j + i,
          record {
            like = cr.like;
            code_at = λ x ch. let (y, one, two) = chain_split f code j i (j + i) c x refl ch in lf.carry y x (r.code_at y one) two;
            most = omega (arith, r.most, lf.most, cr.few);
            pace = λ d. elim (cases_Bool (copies (row_of s q.row).op)) [
              | inl cp ↦ omega (arith, r.pace z, step_row (row_of s) q, copy_next (row_of s) q cp z)
              | inr nc ↦ (let sm = cr.some nc in omega (arith, r.pace z, r.within, k.sound.most, lf.some sm.1 sm.0))
            ];
            within = rw (step_row (row_of s) q) (within_next q r.within);
          },
        ))
  ]

  reached : (n : ℕ) → (m : Player) × (j : ℕ) × Reached n (turns (row_of s) p n) m j
  reached zero = (first, 0, reached_first)
  reached (suc n) = let r = reached n in reached_more n (turns (row_of s) p n) r.0 r.1 r.2

  -- the code, at any number of rows
  module _ (n : ℕ) (q m : Player) (i : ℕ) (r : Reached n q m i) (j : ℕ) (e : Player) (ch : Chain f code c j e) where
    -- the code at the rows that match: behind, or ahead of, where it is
    Behind : Type 0
    Behind = (x : Player) × (x.shared.output ≡ q.shared.output) × (x.shared.outcome ≡ q.shared.outcome) × Chain f code x (j - i) e

    Ahead : Type 0
    Ahead = (x : Player) × (x.shared.output ≡ q.shared.output) × (x.shared.outcome ≡ q.shared.outcome) × Chain f code e (i - j) x

    outs_of : (x : Player) → Matched k.w k.live_w k.reg m x → x.shared.output ≡ q.shared.output
    outs_of x mt = ap (λ z. z.output) mt.shared_as ∙ r.like.output_as

    done_of : (x : Player) → Matched k.w k.live_w k.reg m x → x.shared.outcome ≡ q.shared.outcome
    done_of x mt = ap (λ z. z.outcome) mt.shared_as ∙ r.like.outcome_as

    behind : i ≤ j → Behind
    unfolding Behind
    behind h =
        let (x, one, two) = chain_split f code i (j - i) j c e (omega arith) ch in
        let mt = r.code_at x one in
        (x, outs_of x mt, done_of x mt, two)

    ahead : j ≤ i → Ahead
    unfolding Ahead
    ahead h =
        let (x, more) = extend f code k.self (i - j) e in
        let mt = r.code_at x (chain_join f code j (i - j) i c e x (omega arith) ch more) in
        (x, outs_of x mt, done_of x mt, more)

    prefix : Begins q.shared.output e.shared.output ⊎ Begins e.shared.output q.shared.output
    unfolding Behind Ahead
    prefix = elim (cases_lt j i) [
      | inl h ↦ (let (x, o, d, more) = ahead (omega arith) in inr (rw (← o) (chain_grows f code (i - j) e x more)))
      | inr h ↦ (let (x, o, d, more) = behind h in inl (rw (← o) (chain_grows f code (j - i) x e more)))
    ]

    alike_behind : i ≤ j → running q ≡ false → Even q e
    unfolding Behind
    alike_behind h z =
        let (x, o, d, more) = behind h in
        let rest = chain_rests f code (j - i) x e (ap is_running d ∙ z) more in
        (ap (λ s. s.outcome) rest ∙ d, ap (λ s. s.output) rest ∙ o)

    alike_ahead : j ≤ i → running e ≡ false → Even q e
    unfolding Ahead
    alike_ahead h z =
        let (x, o, d, more) = ahead h in
        let rest = chain_rests f code (i - j) e x z more in
        (sym (ap (λ s. s.outcome) rest) ∙ d, sym (ap (λ s. s.output) rest) ∙ o)

    code_follows : running q ≡ false → 4 * n ≤ j → Even q e
    code_follows z h = alike_behind (omega (arith, r.most)) z

    source_follows : running e ≡ false → 128 * j ≤ n → Even q e
    source_follows z h = elim (cases_Bool (running q)) [
      | inl y ↦ alike_ahead (omega (arith, r.pace y, r.within, k.sound.most)) z
      | inr y ↦ elim (cases_lt j i) [ inl b ↦ alike_ahead (omega arith) z | inr b ↦ alike_behind b y ]
    ]

  pub agrees : (n j : ℕ) (e : Player) → Chain f code c j e →
      (Begins (turns (row_of s) p n).shared.output e.shared.output ⊎ Begins e.shared.output (turns (row_of s) p n).shared.output)
      × (running (turns (row_of s) p n) ≡ false → 4 * n ≤ j → Even (turns (row_of s) p n) e)
      × (running e ≡ false → 128 * j ≤ n → Even (turns (row_of s) p n) e)
  agrees n j e ch =
      let (m, i, r) = reached n in
      let q = turns (row_of s) p n in
      (prefix n q m i r j e ch, code_follows n q m i r j e ch, source_follows n q m i r j e ch)
