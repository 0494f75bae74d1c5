use native.Mathlib.Omega.{arith}
use lib.ListN.{length-take}
use Rattle.exec.specs.Call.{report_of}
use Rattle.bench_show.proofs.Laws.Shown.{extra_words, extra_value, extra_any, extra_overruns, extra_why, extra_nothing}
use Rattle.bench_show.proofs.put_extra.Goals as goal

pub slice_bounds-put_words-end : goal.slice_bounds-put_words-end
slice_bounds-put_words-end c =
    let e = c.min-n.ensures in
    let l = length-take c.min-n.result c.args.words.now in
    omega arith

pub put_words-requires : goal.put_words-requires
put_words-requires c =
    let e = c.min-n.ensures in
    let l = length-take c.min-n.result c.args.words.now in
    let p = c.requires.0 in
    let q = c.requires.1 in
    omega arith

pub returns-then-verb-eq75 : goal.returns-then-verb-eq75
returns-then-verb-eq75 c =
    let s = c in
    let w = c.put_words in
    extra_words s.args.verb (report_of s.args.report) s.args.words.now s.args.out.now w.new.out s.args.at w.result c.if-verb-eq75.true c.min-n.result c.min-n.ensures w.ensures

pub returns-then-verb-eq81 : goal.returns-then-verb-eq81
returns-then-verb-eq81 c =
    let s = c in
    let w = c.put_field in
    extra_value s.args.verb (report_of s.args.report) s.args.words.now s.args.out.now w.new.out s.args.at w.result c.if-verb-eq75.false c.if-verb-eq81.true w.ensures

pub returns-then-verb-eq86 : goal.returns-then-verb-eq86
returns-then-verb-eq86 c =
    let s = c in
    let w = c.put_if_any in
    extra_any s.args.verb (report_of s.args.report) s.args.words.now s.args.out.now w.new.out s.args.at w.result c.if-verb-eq75.false c.if-verb-eq81.false c.if-verb-eq86.true w.ensures

pub returns-then-verb-eq79 : goal.returns-then-verb-eq79
returns-then-verb-eq79 c =
    let s = c in
    let w = c.put_field-then-verb-eq79 in
    extra_overruns s.args.verb (report_of s.args.report) s.args.words.now s.args.out.now w.new.out s.args.at w.result c.if-verb-eq75.false c.if-verb-eq81.false c.if-verb-eq86.false c.if-verb-eq79.true w.ensures

pub returns-then-verb-eq89 : goal.returns-then-verb-eq89
returns-then-verb-eq89 c =
    let s = c in
    let w = c.put_if_any-then-verb-eq89 in
    extra_why s.args.verb (report_of s.args.report) s.args.words.now s.args.out.now w.new.out s.args.at w.result c.if-verb-eq75.false c.if-verb-eq81.false c.if-verb-eq86.false c.if-verb-eq79.false c.if-verb-eq89.true w.ensures

pub returns : goal.returns
returns c =
    let s = c in
    extra_nothing s.args.verb (report_of s.args.report) s.args.words.now s.args.out.now s.args.at c.if-verb-eq75.false c.if-verb-eq81.false c.if-verb-eq86.false c.if-verb-eq79.false c.if-verb-eq89.false
