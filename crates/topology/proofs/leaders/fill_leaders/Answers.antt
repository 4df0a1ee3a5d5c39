use Rattle.std.proofs.Common.{◌≡◌, ℕ, ◌+◌, ◌-◌, ◌<◌, length, sym, subst, arith, ◌∙◌}
use Rattle.topology.specs.Searching.{LeadsReached}
use Rattle.topology.proofs.Inserting.{rows_of}
use Rattle.topology.proofs.Leading.{AreLed, led_all, led_more, led_same}
use Rattle.topology.proofs.leaders.fill_leaders.Goals as goal

pub loop-start-preserved-then-leaders-start : goal.loop-start-preserved-then-leaders-start
loop-start-preserved-then-leaders-start c = record {
  led = λ ids nodes tied same.
      let rows = rows_of c.args.near.now in
      let start : ℕ = c.loop-start.start - 1 in
      let old = c.loop-start.leaders in
      let new = c.lead_reached.new.leaders in
      let next : c.loop-start.start ≡ start + 1 = omega (arith, c.loop-start-test.true) in
      led_more ids nodes rows tied start (omega (arith, same, c.loop-start-test.true, c.loop-start.auto.start)) old
      (subst (λ s. AreLed ids nodes rows s old) next (c.loop-start.invariant.led ids nodes tied same))
      (c.if-leaders-start.true ∙ sym same) new
      (subst (λ n. LeadsReached n rows start old new) (sym same) c.lead_reached.ensures.leads);
  capacity = c.lead_reached.ensures.capacity;
}

pub loop-start-preserved : goal.loop-start-preserved
loop-start-preserved c = record {
  led = λ ids nodes tied same.
      let rows = rows_of c.args.near.now in
      let start : ℕ = c.loop-start.start - 1 in
      let next : c.loop-start.start ≡ start + 1 = omega (arith, c.loop-start-test.true) in
      let led =
      subst (λ s. AreLed ids nodes rows s c.loop-start.leaders) next (c.loop-start.invariant.led ids nodes tied same) in
      let start_in : start < length ids = omega (arith, same, c.loop-start-test.true, c.loop-start.auto.start) in
      led_same ids nodes rows tied start start_in c.loop-start.leaders led
      (omega (arith, same, led.small start start_in, c.if-leaders-start.false));
  capacity = c.loop-start.invariant.capacity;
}

pub returns : goal.returns
returns c =
    λ ids nodes tied same.
    let rows = rows_of c.args.near.now in
    let done : c.loop-start.start ≡ 0 = omega (arith, c.loop-start-test.false) in
    led_all ids nodes rows tied c.loop-start.leaders
    (subst (λ s. AreLed ids nodes rows s c.loop-start.leaders) done (c.loop-start.invariant.led ids nodes tied same))
