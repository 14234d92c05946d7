-- What rewriting may rely on: a spill order of a round of a program that came from a file.
use Rattle.std.proofs.Common.{◌∷◌, Ok, Err, ap, arith}
use mathlib.Core.Logic.{∥∥₁_elim, ∥∥₁_map}
use native.Mathlib.Bridge.{le_prop}
use Rattle.registers.specs.Model.{Model, Lawful}
use Rattle.compiling.specs.Working.{Working, round_of}
use Rattle.compiling.specs.Rewrite.{Ticket, rewritten_by, rewritten}
use Rattle.drafts.specs.declared.draft.Draft.{Draft}
use Rattle.drafts.specs.declared.token.Token.{Token}
use Rattle.drafts.specs.Drafts.{coloured_of, ticket_of}
use Rattle.rewriting.specs.Pages.{Room}
use Rattle.histories.specs.Histories.{Grown, HasGrown, Fitting}
use Rattle.histories.proofs.Growing.{grown_fits}
use Rattle.stages.specs.Stages.{Turned, Pending, Painted}

-- the program that a pending order rewrites came from a file too
spent : (t : Token) (w : Working) → (p : Pending t w) → Grown (p.0 ∷ p.1) p.2 (rewritten_by (ticket_of t w) w)
unfolding rewritten
spent t w (m, ms, bs, grown, lawful, spills, is) = (w, grown, lawful, spills, ap (λ (x : Ticket). rewritten_by x w) is)

pub spent_grown : (t : Token) (w : Working) → ∥ Pending t w ∥₁ → HasGrown (rewritten_by (ticket_of t w) w)
spent_grown t w h = ∥∥₁_map h (λ p. (p.0 ∷ p.1, p.2, spent t w p))

spent_fits : (t : Token) (w : Working) → Pending t w → Fitting (rewritten_by (ticket_of t w) w)
spent_fits t w p = grown_fits (p.0 ∷ p.1) p.2 (rewritten_by (ticket_of t w) w) (spent t w p)

pub spent_room : (t : Token) (w : Working) → ∥ Pending t w ∥₁ → Room (rewritten_by (ticket_of t w) w)
spent_room t w h = record {
  rows = ∥∥₁_elim h le_prop (λ p. (spent_fits t w p).rows);
  classes = ∥∥₁_elim h le_prop (λ p. (spent_fits t w p).classes);
  rounds = ∥∥₁_elim h le_prop (λ p. let f = spent_fits t w p in omega (arith, f.rounds, f.vars));
}

-- a round that spilled leaves its order pending
pub left_pending : (m : Model) (w : Working) (t : Token) → HasGrown w → Lawful m → Turned w (round_of m w) (Err t) → ∥ Pending t w ∥₁
left_pending m w t grown lawful turned = ∥∥₁_map grown (λ g. (m, g.0, g.1, g.2, lawful, turned.0, turned.1))

-- a round that coloured leaves the program painted
pub left_painted : (m : Model) (w : Working) (d : Draft) → HasGrown w → Lawful m → Turned w (round_of m w) (Ok d) → ∥ Painted (coloured_of d) ∥₁
left_painted m w d grown lawful turned = ∥∥₁_map grown (λ g. (m, g.0, g.1, w, g.2, lawful, turned.0, turned.1))
