use Rattle.std.proofs.Common.{◌++◌}
use Rattle.action_tables.proofs.Prefixes.{AppendsPrefix-first, OnErr-always}
use Rattle.history_page.specs.Page.{data_text}
use Rattle.history_page.proofs.Sequences.{all_written, last_failed, second_failed, third_failed}
use Rattle.history_page.proofs.page.put_framed.Goals as goal

pub returns-in_err-put_bytes-clause-err : goal.returns-in_err-put_bytes-clause-err
returns-in_err-put_bytes-clause-err g c =
    let head = c.args.head.now in
    let lines = data_text g.P.Application.app g.P.Application.text g.P.Application.from_text c.args.title.now
    c.args.app.now c.args.opening.now c.args.entries.now in
    let moments = c.args.moments.now in
    let views = c.args.views.now in
    OnErr-always _ _ (AppendsPrefix-first _ _ head (lines ++ (moments ++ views)) c.in_err-put_bytes.ensures.err)

pub returns-in_err-put_data-clause-err : goal.returns-in_err-put_data-clause-err
returns-in_err-put_data-clause-err g c =
    let head = c.args.head.now in
    let lines = data_text g.P.Application.app g.P.Application.text g.P.Application.from_text c.args.title.now
    c.args.app.now c.args.opening.now c.args.entries.now in
    let moments = c.args.moments.now in
    let views = c.args.views.now in
    OnErr-always _ _ (second_failed _ _ _ head lines (moments ++ views) c.in_ok-put_bytes.ensures.ok
    c.in_err-put_data.ensures.err)

pub returns-in_err-put_bytes-2-clause-err : goal.returns-in_err-put_bytes-2-clause-err
returns-in_err-put_bytes-2-clause-err g c =
    let head = c.args.head.now in
    let lines = data_text g.P.Application.app g.P.Application.text g.P.Application.from_text c.args.title.now
    c.args.app.now c.args.opening.now c.args.entries.now in
    let moments = c.args.moments.now in
    let views = c.args.views.now in
    OnErr-always _ _ (third_failed _ _ _ _ head lines moments views c.in_ok-put_bytes.ensures.ok
    c.in_ok-put_data.ensures.ok c.in_err-put_bytes-2.ensures.err)

pub returns-in_err-put_bytes-3-clause-err : goal.returns-in_err-put_bytes-3-clause-err
returns-in_err-put_bytes-3-clause-err g c =
    let head = c.args.head.now in
    let lines = data_text g.P.Application.app g.P.Application.text g.P.Application.from_text c.args.title.now
    c.args.app.now c.args.opening.now c.args.entries.now in
    let moments = c.args.moments.now in
    let views = c.args.views.now in
    OnErr-always _ _ (last_failed _ _ _ _ _ head lines moments views c.in_ok-put_bytes.ensures.ok
    c.in_ok-put_data.ensures.ok c.in_ok-put_bytes-2.ensures.ok c.in_err-put_bytes-3.ensures.err)

pub returns-clause-ok : goal.returns-clause-ok
returns-clause-ok g c =
    let head = c.args.head.now in
    let lines = data_text g.P.Application.app g.P.Application.text g.P.Application.from_text c.args.title.now
    c.args.app.now c.args.opening.now c.args.entries.now in
    let moments = c.args.moments.now in
    let views = c.args.views.now in
    all_written _ _ _ _ _ head lines moments views c.in_ok-put_bytes.ensures.ok c.in_ok-put_data.ensures.ok
    c.in_ok-put_bytes-2.ensures.ok c.in_ok-put_bytes-3.ensures.ok
