-- What holds of every history is a proposition, so it holds where some history is known to be.
use Rattle.std.proofs.Common.{◌≡◌, ℕ, ◌<◌, true, false, List, [], ◌∷◌, length, Ok, refl}
use mathlib.Core.Bool.{Bool-set}
use mathlib.Core.HLevel.{→_prop, ×_prop, ×₃_prop, Π_prop}
use mathlib.Core.Logic.{∥∥₁_elim, ∥∥₁_map}
use native.Mathlib.Bridge.{le_prop}
use native.Mathlib.Nat.{ℕ_set}
use Rattle.rows.specs.declared.Row.{Row}
use Rattle.rows.specs.Rows.{Program}
use Rattle.rows.specs.Lines.{Tame}
use Rattle.admission.specs.Admission.{admitting}
use Rattle.registers.specs.Model.{Model, Lawful}
use Rattle.rounds.specs.Round.{colours}
use Rattle.compiling.specs.Working.{Working, Compiled, admitted, round_of}
use Rattle.compiling.specs.Rewrite.{rewritten}
use Rattle.compiling.specs.Emit.{emitted}
use Rattle.machine.specs.Agreement.{Agreeing}
use Rattle.assembling.specs.Rounds.{unplaced}
use Rattle.agreement.specs.Keeping.{Prompt}
use Rattle.players.specs.Scripts.{Inside}
use Rattle.histories.specs.Histories.{NamesBelow, Fitting, Playable, HasGrown, HasFinished, IsFinished, HistoriesKnown}
use Rattle.histories.proofs.Growing.{grown_fits, rounds_progress}
use Rattle.histories.proofs.Turning.{finished_agrees}
use Rattle.histories.proofs.Playing.{finished_plays}

tame_prop : (rows : List Row) → IsProp (Tame rows)
tame_prop rows = Π_prop (λ i. ×_prop le_prop (→_prop le_prop))

inside_prop : (rows : List Row) → IsProp (Inside rows)
inside_prop rows = Π_prop (λ i. Π_prop (λ l. ×_prop (→_prop le_prop) (→_prop le_prop)))

names_prop : (n : ℕ) (rows : List Row) → IsProp (NamesBelow n rows)
names_prop n rows = Π_prop (λ i. ×₃_prop (→_prop le_prop) (→_prop le_prop) (→_prop le_prop))

pub fitting_prop : (w : Working) → IsProp (Fitting w)
fitting_prop w f g = λ i. record {
  vars = le_prop f.vars g.vars i;
  rows = le_prop f.rows g.rows i;
  some = le_prop f.some g.some i;
  classes = le_prop f.classes g.classes i;
  above = le_prop f.above g.above i;
  slots = le_prop f.slots g.slots i;
  rounds = le_prop f.rounds g.rounds i;
  places = ℕ_set _ _ f.places g.places i;
  tame = tame_prop w.rows f.tame g.tame i;
  inside = inside_prop w.rows f.inside g.inside i;
  numbers = names_prop (length w.classes) w.rows f.numbers g.numbers i;
}

pub playable_prop : (c : Compiled) → IsProp (Playable c)
playable_prop c f g = λ i. record {
  some = le_prop f.some g.some i;
  most = le_prop f.most g.most i;
  inside = inside_prop c.source.rows f.inside g.inside i;
  named = Π_prop (λ k. ×_prop (→_prop le_prop) (Bool-set _ _)) f.named g.named i;
  classed = Π_prop (λ k. →_prop le_prop) f.classed g.classed i;
  code_some = le_prop f.code_some g.code_some i;
  code_most = le_prop f.code_most g.code_most i;
  code_inside = inside_prop c.rows f.code_inside g.code_inside i;
  code_classed = Π_prop (λ k. →_prop le_prop) f.code_classed g.code_classed i;
  vars = le_prop f.vars g.vars i;
  places = ℕ_set _ _ f.places g.places i;
  slots = le_prop f.slots g.slots i;
  rounds = le_prop f.rounds g.rounds i;
}

pub prompt_prop : (c : Compiled) → IsProp (Prompt c)
prompt_prop c f g = λ i. record {
  rounds = le_prop f.rounds g.rounds i;
  hoped = Π_prop (λ v. →_prop (Bool-set _ _)) f.hoped g.hoped i;
  rows = le_prop f.rows g.rows i;
  most_rows = le_prop f.most_rows g.most_rows i;
  slots = le_prop f.slots g.slots i;
  most_slots = le_prop f.most_slots g.most_slots i;
}

-- ---- the calls

pub first_grown : (bs : List ℕ) (p : Program) → admitting bs ≡ Ok p → HasGrown (admitted p)
first_grown bs p read = ∣ ([], bs, (p, read, refl)) ∣₁

pub next_grown : (m : Model) (w : Working) → HasGrown w → Lawful m → colours (round_of m w) ≡ false → HasGrown (rewritten w (round_of m w))
next_grown m w h lawful none = ∥∥₁_map h (λ (ms, bs, g). (m ∷ ms, bs, (w, g, lawful, none, refl)))

pub last_finished : (m : Model) (w : Working) → HasGrown w → Lawful m → colours (round_of m w) ≡ true → HasFinished m (emitted w (round_of m w))
last_finished m w h lawful done = ∥∥₁_map h (λ (ms, bs, g). (ms, bs, (w, g, lawful, done, refl)))

pub some_finished : (m : Model) (c : Compiled) → HasFinished m c → IsFinished c
some_finished m c h = ∥∥₁_map h (λ (ms, bs, f). (m, ms, bs, f))

-- ---- what holds then

pub fitting_of : (w : Working) → HasGrown w → Fitting w
fitting_of w h = ∥∥₁_elim h (fitting_prop w) (λ (ms, bs, g). grown_fits ms bs w g)

pub progress_of : (m : Model) (w : Working) → HasGrown w → Lawful m → colours (round_of m w) ≡ false → unplaced (rewritten w (round_of m w)) < unplaced w
progress_of m w h lawful none = ∥∥₁_elim h le_prop (λ (ms, bs, g). rounds_progress m ms bs w g lawful none)

pub playable_of : (c : Compiled) → IsFinished c → Playable c
playable_of c h = ∥∥₁_elim h (playable_prop c) (λ (m, ms, bs, f). finished_plays m ms bs c f)

pub prompt_of : (c : Compiled) → IsFinished c → Prompt c
prompt_of c h = ∥∥₁_elim h (prompt_prop c) (λ (m, ms, bs, f). (finished_agrees m ms bs c f).1)

pub agreeing_of : (m : Model) (c : Compiled) → HasFinished m c → ∥ Agreeing c m ∥₁
agreeing_of m c h = ∥∥₁_map h (λ (ms, bs, f). (finished_agrees m ms bs c f).0)

pub histories_known : HistoriesKnown
histories_known = record {
  first = first_grown;
  next = next_grown;
  last = last_finished;
  some = some_finished;
  fits = fitting_of;
  progress = progress_of;
  plays = playable_of;
  prompt = prompt_of;
  agrees = agreeing_of;
}
