use mathlib.Core.Path.{sym}
use native.Mathlib.Omega.{arith}
use Rattle.recording.proofs.WriteLaws.{heads_none, heads_more, refused_word_lem, refused_clock, heads_taken}
use Rattle.recording.proofs.writer.check_heads.Goals as goal

pub loop-i-init : goal.loop-i-init
loop-i-init c = heads_none c.args.entries.now

pub loop-i-preserved : goal.loop-i-preserved
loop-i-preserved c =
    rw (c.given_word-words.ensures, c.given_clock-clocks.ensures)
    (heads_more c.loop-i.invariant (omega (arith, c.given_count-i-end.ensures, c.loop-i-test.true)))

pub returns-then-words-gt1 : goal.returns-then-words-gt1
returns-then-words-gt1 c =
    sym (refused_word_lem c.loop-i.invariant (omega (arith, c.given_count-i-end.ensures, c.loop-i-test.false)) c.if-words-gt1.true)

pub returns-then-clocks-ge-CLOCK_LIMIT : goal.returns-then-clocks-ge-CLOCK_LIMIT
returns-then-clocks-ge-CLOCK_LIMIT c =
    sym
    (refused_clock c.loop-i.invariant (omega (arith, c.given_count-i-end.ensures, c.loop-i-test.false)) c.if-words-gt1.false
    c.if-clocks-ge-CLOCK_LIMIT.true)

pub returns : goal.returns
returns c =
    sym
    (heads_taken c.loop-i.invariant (omega (arith, c.given_count-i-end.ensures, c.loop-i-test.false)) c.if-words-gt1.false
    c.if-clocks-ge-CLOCK_LIMIT.false)
