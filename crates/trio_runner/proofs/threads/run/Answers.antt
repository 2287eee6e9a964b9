use Rattle.trio_runner.proofs.Closing.{HasStarted, all_arrive, end_every, end_first, end_idle, end_seats, script_ran}
use Rattle.trio_runner.proofs.threads.run.Goals as goal

pub close-requires-clause-seats : goal.close-requires-clause-seats
close-requires-clause-seats g c =
    let r = c.requires in
    let started : HasStarted c.args.ctl c.args.libs.now = record { kept = r.kept; started = r.started; first = r.first; unlogged = r.unlogged; history = c.is_recorded.ensures } in
    end_seats c.args.ctl c.args.libs.now started c.in-Ok.shared c.in-Ok.seats.items c.in-Ok.ensures.seats c.in-Ok.ensures.libraries.1
    c.in_ok-runs.runs.items c.in_ok-runs.ensures.ran c.in_ok-seats.seats.items c.in_ok-seats.ensures.seats c.in_ok-seats.tolds.items c.in_ok-seats.ensures.tolds

pub close-requires-clause-every : goal.close-requires-clause-every
close-requires-clause-every g c =
    let r = c.requires in
    let started : HasStarted c.args.ctl c.args.libs.now = record { kept = r.kept; started = r.started; first = r.first; unlogged = r.unlogged; history = c.is_recorded.ensures } in
    end_every c.args.ctl c.args.libs.now started c.in-Ok.shared c.in-Ok.seats.items c.in-Ok.ensures.seats c.in-Ok.ensures.libraries.1
    c.in_ok-runs.runs.items c.in_ok-runs.ensures.ran c.in_ok-seats.seats.items c.in_ok-seats.ensures.seats c.in_ok-seats.tolds.items c.in_ok-seats.ensures.tolds c.in-Ok.ensures.libraries.0

pub returns-in-Ok-close-clause-script : goal.returns-in-Ok-close-clause-script
returns-in-Ok-close-clause-script g c =
    let r = c.requires in
    let e = c.in-Ok-close.ensures in
    let started : HasStarted c.args.ctl c.args.libs.now = record { kept = r.kept; started = r.started; first = r.first; unlogged = r.unlogged; history = c.is_recorded.ensures } in
    script_ran c.args.ctl c.args.libs.now started c.in-Ok.shared c.in-Ok.seats.items c.in-Ok.ensures.seats c.in-Ok.ensures.libraries.1
    c.in_ok-runs.runs.items c.in_ok-runs.ensures.ran c.in_ok-seats.seats.items c.in_ok-seats.ensures.seats c.in_ok-seats.tolds.items c.in_ok-seats.ensures.tolds
    r.some c.in-Ok-close.ctl e.seen e.mine e.first e.begun e.left

pub returns-in-Ok-close-clause-first : goal.returns-in-Ok-close-clause-first
returns-in-Ok-close-clause-first g c =
    let r = c.requires in
    let e = c.in-Ok-close.ensures in
    let started : HasStarted c.args.ctl c.args.libs.now = record { kept = r.kept; started = r.started; first = r.first; unlogged = r.unlogged; history = c.is_recorded.ensures } in
    end_first c.args.ctl c.args.libs.now started c.in-Ok.shared c.in-Ok.seats.items c.in-Ok.ensures.seats c.in-Ok.ensures.libraries.1
    c.in_ok-runs.runs.items c.in_ok-runs.ensures.ran c.in_ok-seats.seats.items c.in_ok-seats.ensures.seats c.in_ok-seats.tolds.items c.in_ok-seats.ensures.tolds
    r.some c.in-Ok-close.ctl e.seen e.mine e.first e.begun e.left

pub returns-in-Ok-close-clause-idle : goal.returns-in-Ok-close-clause-idle
returns-in-Ok-close-clause-idle g c =
    let r = c.requires in
    let e = c.in-Ok-close.ensures in
    let started : HasStarted c.args.ctl c.args.libs.now = record { kept = r.kept; started = r.started; first = r.first; unlogged = r.unlogged; history = c.is_recorded.ensures } in
    end_idle c.args.ctl c.args.libs.now started c.in-Ok.shared c.in-Ok.seats.items c.in-Ok.ensures.seats c.in-Ok.ensures.libraries.1
    c.in_ok-runs.runs.items c.in_ok-runs.ensures.ran c.in_ok-seats.seats.items c.in_ok-seats.ensures.seats c.in_ok-seats.tolds.items c.in_ok-seats.ensures.tolds
    r.some c.in-Ok-close.ctl e.seen e.mine e.first e.begun e.left

pub run_libs-requires-clause-arrive : goal.run_libs-requires-clause-arrive
run_libs-requires-clause-arrive g c κs within =
    let r = c.requires in
    let started : HasStarted c.args.ctl c.args.libs.now = record { kept = r.kept; started = r.started; first = r.first; unlogged = r.unlogged; history = c.is_recorded.ensures } in
    all_arrive c.args.ctl c.args.libs.now started c.in-Ok.shared c.in-Ok.seats.items c.in-Ok.ensures.seats
