-- Both ways in which a program is compiled for a register file lead to agreement.
use Rattle.std.proofs.Common.{◌≡◌, ℕ, ◌≤◌, List, length, sym, subst, inl, inr, arith}
use mathlib.Core.Logic.{∥∥₁_elim}
use Rattle.rows.specs.declared.Row.{Row}
use Rattle.registers.specs.Model.{Model}
use Rattle.compiling.specs.Working.{Compiled}
use Rattle.compiling.specs.Compile.{compile}
use Rattle.machine.specs.Rehearsal.{Rehearsal, opened}
use Rattle.machine.specs.Agreement.{Agreeing}
use Rattle.agreement.proofs.Induction.{agreement}
use Rattle.players.specs.Scripts.{Inside, Classed, Named}
use Rattle.histories.specs.Histories.{Playable}
use Rattle.histories.proofs.Merely.{playable_prop}
use Rattle.histories.proofs.Turning.{finished_agrees}
use Rattle.opening.specs.Promise.{CompiledFor, Promise}

agreeing : (file : Model) (c : Compiled) → CompiledFor file c → Agreeing c file
unfolding compile
agreeing file c (inl (lawful, (bs, e))) = agreement (λ _. file) (λ _. lawful) bs c e
agreeing file c (inr (ms, bs, h)) = (finished_agrees file ms bs c h).0

pub promise : (c : Compiled) (bank : Model) (numbers slots : ℕ → ℕ) (t : Rehearsal) → t ≡ opened c numbers slots → Promise c bank t
promise c bank numbers slots t e =
    let P : Rehearsal → Type 0 = λ x. Promise c bank x in
    subst P (sym e) (λ file same for es u h. agreeing file c for bank same numbers slots es u h)

-- what the rows of each side keep to
abbrev pub SourceRows : List Row → Type 0
SourceRows rows = (1 ≤ length rows) × (length rows ≤ 512) × Inside rows × Classed rows × Named rows

abbrev pub CodeRows : List Row → Type 0
CodeRows rows = (1 ≤ length rows) × (length rows ≤ 512) × Inside rows × Classed rows

known : (c : Compiled) → ∥ Playable c ∥₁ → Playable c
known c h = ∥∥₁_elim h (playable_prop c) (λ p. p)

pub source_keeps : (c : Compiled) → ∥ Playable c ∥₁ → SourceRows c.source.rows
source_keeps c h = let p = known c h in (p.some, omega (arith, p.most), p.inside, p.classed, p.named)

pub code_keeps : (c : Compiled) → ∥ Playable c ∥₁ → CodeRows c.rows
code_keeps c h = let p = known c h in (p.code_some, p.code_most, p.code_inside, p.code_classed)
