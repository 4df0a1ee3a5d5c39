use Rattle.std.proofs.Common.{rules, ◌≡◌, ◌<◌, ◌++◌, ◌∙◌, [], ap, append-nil, arith, length, refl, subst, take}
use Rattle.std.specs.Io.KnownBytes.{Consumes}
use Rattle.std.proofs.KnownBytes.{Consumes-nil, Consumes-trans}
use Rattle.std.proofs.lemmas.Result.{on_err_weaker, on_ok_weaker}
use Rattle.applications.specs.Meaning.{meaning_of}
use Rattle.history.proofs.ReadLines.{all_given, some_whole, whole_before}
use Rattle.live_session.specs.Progress.{Comes}
use Rattle.live_session.proofs.Taken.{committed, cut_within, cut_within_commit, ended_with, written_within}
use Rattle.live_session.proofs.session.Session.converse.Goals as goal

pub loop-init : goal.loop-init
loop-init g c = ([], Consumes-nil (g.R.Read.remaining c.args.input.now), search rules, λ s start. start)

pub returns-in-Err-clause-cut : goal.returns-in-Err-clause-cut
returns-in-Err-clause-cut g c s start =
    let m =
    meaning_of g.P.Application.app g.P.Application.text g.P.Application.from_text g.P.Application.names
    g.P.Invariant.counts in
    let (given, consumed, sized, on) = c.loop.invariant in
    let (line, within) = on s start in
    let log = g.H.Write.contents c.loop.log in
    let out = g.W.Write.contents c.loop.out in
    let (rest, whole) = some_whole (g.R.Read.remaining c.loop.input) in
    let all =
    whole_before (g.R.Read.remaining c.args.input.now) (g.R.Read.remaining c.loop.input) given rest consumed whole in (
      given ++ rest,
      all,
      cut_within_commit m s log out given line rest (g.H.Write.contents c.commit.new.log)
          (g.W.Write.contents c.commit.new.out) c.loop.self within c.in-Err.ensures.err,
    )

pub returns-in_default-clause-cut : goal.returns-in_default-clause-cut
returns-in_default-clause-cut g c s start =
    let m =
    meaning_of g.P.Application.app g.P.Application.text g.P.Application.from_text g.P.Application.names
    g.P.Invariant.counts in
    let (given, consumed, sized, on) = c.loop.invariant in
    let (line, within) = on s start in
    let log = g.H.Write.contents c.loop.log in
    let out = g.W.Write.contents c.loop.out in
    let (rest, whole) = some_whole (g.R.Read.remaining c.loop.input) in
    let all =
    whole_before (g.R.Read.remaining c.args.input.now) (g.R.Read.remaining c.loop.input) given rest consumed whole in
    let ok = c.in-Ok.ensures in
    let log' = g.H.Write.contents c.commit.new.log in
    let out' = g.W.Write.contents c.commit.new.out in
    let now = committed c.loop.self c.commit.new.self in
    let at =
    written_within m s log out given line log' out' c.loop.self now ok.log ok.out ok.entries ok.answers refl refl refl
    refl within in
    (given ++ rest, all, cut_within m s log' out' given line rest now at)

pub returns-then-self-gt-MOST_LINES-clause-cut : goal.returns-then-self-gt-MOST_LINES-clause-cut
returns-then-self-gt-MOST_LINES-clause-cut g c s start =
    let m =
    meaning_of g.P.Application.app g.P.Application.text g.P.Application.from_text g.P.Application.names
    g.P.Invariant.counts in
    let (given, consumed, sized, on) = c.loop.invariant in
    let (line, within) = on s start in
    let log = g.H.Write.contents c.loop.log in
    let out = g.W.Write.contents c.loop.out in
    let (rest, whole) = some_whole (g.R.Read.remaining c.loop.input) in
    let all =
    whole_before (g.R.Read.remaining c.args.input.now) (g.R.Read.remaining c.loop.input) given rest consumed whole in
    let ok = c.in-Ok.ensures in
    let log' = g.H.Write.contents c.commit.new.log in
    let out' = g.W.Write.contents c.commit.new.out in
    let now = committed c.loop.self c.commit.new.self in
    let at =
    written_within m s log out given line log' out' c.loop.self now ok.log ok.out ok.entries ok.answers refl refl refl
    refl within in
    (given ++ rest, all, cut_within m s log' out' given line rest now at)

pub returns-then-count-eq0-clause-done : goal.returns-then-count-eq0-clause-done
returns-then-count-eq0-clause-done g c =
    let m =
    meaning_of g.P.Application.app g.P.Application.text g.P.Application.from_text g.P.Application.names
    g.P.Invariant.counts in
    on_ok_weaker c.end.result
    (λ done s start. let (given, consumed, sized, on) = c.loop.invariant in
    let (line, within) = on s start in
    let log = g.H.Write.contents c.loop.log in
    let out = g.W.Write.contents c.loop.out in
    let ok = c.in-Ok.ensures in
    let log' = g.H.Write.contents c.commit.new.log in
    let out' = g.W.Write.contents c.commit.new.out in
    let now = committed c.loop.self c.commit.new.self in
    let at =
    written_within m s log out given line log' out' c.loop.self now ok.log ok.out ok.entries ok.answers refl refl refl
    refl within in
    let old = g.R.Read.remaining c.args.input.now in
    let here = g.R.Read.remaining c.loop.input in
    let new = g.R.Read.remaining c.read.new.self in
    let bytes = take c.in-Ok-read.count c.read.new.buf in
    let more = Consumes-trans old here new given bytes consumed c.in-Ok-read.ensures.bytes.0 in
    let none : given ++ bytes ≡ given =
    ap (λ n. given ++ take n c.read.new.buf) c.if-count-eq0.true ∙ append-nil given in
    let some : 0 < length c.read.new.buf = omega (arith, sized, c.in-Ok-read.ensures.bound.1) in
    let all =
    all_given old new given (subst (λ t. Consumes old new t) none more)
    (c.in-Ok-read.ensures.bytes.1 c.if-count-eq0.true some) in
    (given, all, done s given (line, at))) c.end.ensures.done

pub returns-then-count-eq0-clause-cut : goal.returns-then-count-eq0-clause-cut
returns-then-count-eq0-clause-cut g c =
    let m =
    meaning_of g.P.Application.app g.P.Application.text g.P.Application.from_text g.P.Application.names
    g.P.Invariant.counts in
    on_err_weaker c.end.result
    (λ cut s start. let (given, consumed, sized, on) = c.loop.invariant in
    let (line, within) = on s start in
    let log = g.H.Write.contents c.loop.log in
    let out = g.W.Write.contents c.loop.out in
    let ok = c.in-Ok.ensures in
    let log' = g.H.Write.contents c.commit.new.log in
    let out' = g.W.Write.contents c.commit.new.out in
    let now = committed c.loop.self c.commit.new.self in
    let at =
    written_within m s log out given line log' out' c.loop.self now ok.log ok.out ok.entries ok.answers refl refl refl
    refl within in
    let old = g.R.Read.remaining c.args.input.now in
    let here = g.R.Read.remaining c.loop.input in
    let new = g.R.Read.remaining c.read.new.self in
    let bytes = take c.in-Ok-read.count c.read.new.buf in
    let more = Consumes-trans old here new given bytes consumed c.in-Ok-read.ensures.bytes.0 in
    let none : given ++ bytes ≡ given =
    ap (λ n. given ++ take n c.read.new.buf) c.if-count-eq0.true ∙ append-nil given in
    let some : 0 < length c.read.new.buf = omega (arith, sized, c.in-Ok-read.ensures.bound.1) in
    let all =
    all_given old new given (subst (λ t. Consumes old new t) none more)
    (c.in-Ok-read.ensures.bytes.1 c.if-count-eq0.true some) in
    (given, all, cut s given (line, at))) c.end.ensures.cut

pub returns-in-Ok-true-clause-done : goal.returns-in-Ok-true-clause-done
returns-in-Ok-true-clause-done g c =
    let m =
    meaning_of g.P.Application.app g.P.Application.text g.P.Application.from_text g.P.Application.names
    g.P.Invariant.counts in
    on_ok_weaker c.leave.result
    (λ done s start. let (given, consumed, sized, on) = c.loop.invariant in
    let (line, within) = on s start in
    let log = g.H.Write.contents c.loop.log in
    let out = g.W.Write.contents c.loop.out in
    let ok = c.in-Ok.ensures in
    let log' = g.H.Write.contents c.commit.new.log in
    let out' = g.W.Write.contents c.commit.new.out in
    let now = committed c.loop.self c.commit.new.self in
    let at =
    written_within m s log out given line log' out' c.loop.self now ok.log ok.out ok.entries ok.answers refl refl refl
    refl within in
    let old = g.R.Read.remaining c.args.input.now in
    let here = g.R.Read.remaining c.loop.input in
    let new = g.R.Read.remaining c.read.new.self in
    let bytes = take c.in-Ok-read.count c.read.new.buf in
    let more = Consumes-trans old here new given bytes consumed c.in-Ok-read.ensures.bytes.0 in
    let (rest, whole) = some_whole new in
    let all = whole_before old new (given ++ bytes) rest more whole in
    let left = c.take_bytes.new.self in
    let log'' = g.H.Write.contents c.take_bytes.new.log in
    let out'' = g.W.Write.contents c.take_bytes.new.out in
    let ended =
    ended_with m s log'' out'' (given ++ bytes) rest left
    (subst (λ b. Comes b m s (given ++ bytes) left log'' out'') c.in-Ok-true.field-0-test
    (c.in-Ok-true.ensures.ok s given (line, at))) in
    ((given ++ bytes) ++ rest, all, done s ((given ++ bytes) ++ rest) ended)) c.leave.ensures.done

pub returns-in-Ok-true-clause-cut : goal.returns-in-Ok-true-clause-cut
returns-in-Ok-true-clause-cut g c =
    let m =
    meaning_of g.P.Application.app g.P.Application.text g.P.Application.from_text g.P.Application.names
    g.P.Invariant.counts in
    on_err_weaker c.leave.result
    (λ cut s start. let (given, consumed, sized, on) = c.loop.invariant in
    let (line, within) = on s start in
    let log = g.H.Write.contents c.loop.log in
    let out = g.W.Write.contents c.loop.out in
    let ok = c.in-Ok.ensures in
    let log' = g.H.Write.contents c.commit.new.log in
    let out' = g.W.Write.contents c.commit.new.out in
    let now = committed c.loop.self c.commit.new.self in
    let at =
    written_within m s log out given line log' out' c.loop.self now ok.log ok.out ok.entries ok.answers refl refl refl
    refl within in
    let old = g.R.Read.remaining c.args.input.now in
    let here = g.R.Read.remaining c.loop.input in
    let new = g.R.Read.remaining c.read.new.self in
    let bytes = take c.in-Ok-read.count c.read.new.buf in
    let more = Consumes-trans old here new given bytes consumed c.in-Ok-read.ensures.bytes.0 in
    let (rest, whole) = some_whole new in
    let all = whole_before old new (given ++ bytes) rest more whole in
    let left = c.take_bytes.new.self in
    let log'' = g.H.Write.contents c.take_bytes.new.log in
    let out'' = g.W.Write.contents c.take_bytes.new.out in
    let ended =
    ended_with m s log'' out'' (given ++ bytes) rest left
    (subst (λ b. Comes b m s (given ++ bytes) left log'' out'') c.in-Ok-true.field-0-test
    (c.in-Ok-true.ensures.ok s given (line, at))) in
    ((given ++ bytes) ++ rest, all, cut s ((given ++ bytes) ++ rest) ended)) c.leave.ensures.cut

pub returns-in-Err-take_bytes-clause-cut : goal.returns-in-Err-take_bytes-clause-cut
returns-in-Err-take_bytes-clause-cut g c s start =
    let m =
    meaning_of g.P.Application.app g.P.Application.text g.P.Application.from_text g.P.Application.names
    g.P.Invariant.counts in
    let (given, consumed, sized, on) = c.loop.invariant in
    let (line, within) = on s start in
    let log = g.H.Write.contents c.loop.log in
    let out = g.W.Write.contents c.loop.out in
    let ok = c.in-Ok.ensures in
    let log' = g.H.Write.contents c.commit.new.log in
    let out' = g.W.Write.contents c.commit.new.out in
    let now = committed c.loop.self c.commit.new.self in
    let at =
    written_within m s log out given line log' out' c.loop.self now ok.log ok.out ok.entries ok.answers refl refl refl
    refl within in
    let old = g.R.Read.remaining c.args.input.now in
    let here = g.R.Read.remaining c.loop.input in
    let new = g.R.Read.remaining c.read.new.self in
    let bytes = take c.in-Ok-read.count c.read.new.buf in
    let more = Consumes-trans old here new given bytes consumed c.in-Ok-read.ensures.bytes.0 in
    let (rest, whole) = some_whole new in
    let all = whole_before old new (given ++ bytes) rest more whole in
    ((given ++ bytes) ++ rest, all, c.in-Err-take_bytes.ensures.cut s given rest (line, at))

pub loop-preserved : goal.loop-preserved
loop-preserved g c =
    let m =
    meaning_of g.P.Application.app g.P.Application.text g.P.Application.from_text g.P.Application.names
    g.P.Invariant.counts in
    let (given, consumed, sized, on) = c.loop.invariant in
    let old = g.R.Read.remaining c.args.input.now in
    let here = g.R.Read.remaining c.loop.input in
    let new = g.R.Read.remaining c.read.new.self in
    let bytes = take c.in-Ok-read.count c.read.new.buf in (
      given ++ bytes,
      Consumes-trans old here new given bytes consumed c.in-Ok-read.ensures.bytes.0,
      omega (arith, sized, c.in-Ok-read.ensures.bound.1),
      λ s start. let (line, within) = on s start in
          let log = g.H.Write.contents c.loop.log in
          let out = g.W.Write.contents c.loop.out in
          let ok = c.in-Ok.ensures in
          let log' = g.H.Write.contents c.commit.new.log in
          let out' = g.W.Write.contents c.commit.new.out in
          let now = committed c.loop.self c.commit.new.self in
          let at =
          written_within m s log out given line log' out' c.loop.self now ok.log ok.out ok.entries ok.answers refl refl
          refl refl within in
          subst (λ b. Comes b m s (given ++ bytes) c.take_bytes.new.self (g.H.Write.contents c.take_bytes.new.log)
          (g.W.Write.contents c.take_bytes.new.out)) c.in-Ok-false.field-0-test
          (c.in-Ok-false.ensures.ok s given (line, at)),
    )

pub returns-clause-cut : goal.returns-clause-cut
returns-clause-cut g c s start =
    let m =
    meaning_of g.P.Application.app g.P.Application.text g.P.Application.from_text g.P.Application.names
    g.P.Invariant.counts in
    let (given, consumed, sized, on) = c.loop.invariant in
    let (line, within) = on s start in
    let log = g.H.Write.contents c.loop.log in
    let out = g.W.Write.contents c.loop.out in
    let (rest, whole) = some_whole (g.R.Read.remaining c.loop.input) in
    let all =
    whole_before (g.R.Read.remaining c.args.input.now) (g.R.Read.remaining c.loop.input) given rest consumed whole in
    (given ++ rest, all, cut_within m s log out given line rest c.loop.self within)
