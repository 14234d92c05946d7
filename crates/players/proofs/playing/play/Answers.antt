use Rattle.std.proofs.Common.{◌≡◌, ℕ, ◌-◌, sym, ap, ◌∙◌, subst, inl, inr, arith}
use Rattle.machine.specs.Machine.{is_running}
use Rattle.players.specs.Playing.{Plays}
use Rattle.players.proofs.Plays.{follows_more, follows_none}
use Rattle.players.proofs.playing.play.Goals as goal

pub returns-then-not-is_running-clause-played : goal.returns-then-not-is_running-clause-played
returns-then-not-is_running-clause-played g c =
    let l = c.loop-rows in
    let off = sym (ap is_running c.outcome-outcome.ensures) ∙ sym c.is_running.ensures ∙ c.if-not-is_running.true in
    follows_none g.P.Steps.outcome g.P.Steps.Step l.player c.args.player.now c.args.n l.rows l.invariant (inl off)

pub loop-rows-preserved : goal.loop-rows-preserved
loop-rows-preserved g c =
    let l = c.loop-rows in
    let on = sym (ap is_running c.outcome-outcome.ensures) ∙ sym c.is_running.ensures ∙ c.if-not-is_running.false in
    follows_more g.P.Steps.outcome g.P.Steps.Step l.player c.args.player.now c.args.n l.rows l.invariant c.step.new.self c.loop-rows-test.true on c.step.ensures

pub returns-clause-played : goal.returns-clause-played
returns-clause-played g c =
    let l = c.loop-rows in
    let none : c.args.n - l.rows ≡ 0 = omega arith in
    let all : l.rows ≡ c.args.n = omega arith in
    subst (λ (k : ℕ). Plays g.P.Steps.outcome g.P.Steps.Step c.args.player.now c.args.n k l.player) all
    (follows_none g.P.Steps.outcome g.P.Steps.Step l.player c.args.player.now c.args.n l.rows l.invariant (inr none))
