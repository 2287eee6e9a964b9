use Rattle.trio_session.proofs.Words.{◌∙◌, ◌≡◌, Err, Global, IsOn, List, ModeSet, NotModeSet, Parcel, ReadLease, SeenAfter, SessionSeen, SetMode, Shown, Some, ap, arith, dir_numbers, emptied, length, made_seen, map, nothing, refl, subst, sym}
use Rattle.std.proofs.Common.{Vec}
use Rattle.trio_desk.specs.Call.{TellsHolder}
use Rattle.trio_desk.specs.Calls.{Made}
use Rattle.trio_desk.specs.Ready.{IsChmod}
use Rattle.trio_desk.specs.Refusals.{TellsCause}
use Rattle.trio_session.specs.contracts.session.Session.{the_view}
use Rattle.trio_session.proofs.Desks.{empty_now, on_moded, on_still}
use Rattle.trio_session.proofs.session.Session.set_mode.Goals as goal
use Rattle.trio_session.proofs.session.Session.set_mode.Goals.{After-set_mode}
use Rattle.trio_session.proofs.session.Session.set_mode.Given.{Over}

-- what was handed in is what the session had
asked : (g : Over) (c : After-set_mode g) → SetMode c.args.ino c.args.mode c.replace-reads.result.items (Some c.args.call) ≡ SetMode c.args.ino c.args.mode c.args.self.now.reads (Some c.args.call)
asked g c =
    ap (λ (v : Vec ReadLease Global). SetMode c.args.ino c.args.mode v.items (Some c.args.call)) c.replace-reads.ensures.value
    ∙ ap (λ (x : SessionSeen). SetMode c.args.ino c.args.mode x.reads (Some c.args.call)) c.self.view_is

-- the session is empty
now_empty : (g : Over) (c : goal.After-clear-in-Ok-2 g)
    → the_view (record c.self.inside { reads = c.replace-reads.new.dest; made = c.clear.new.self; cleared = c.clear-in-Ok.new.self; dirs = c.clear-in-Ok-2.new.self })
    ≡ record (emptied c.args.self.now) { room = (the_view (record c.self.inside { reads = c.replace-reads.new.dest; made = c.clear.new.self; cleared = c.clear-in-Ok.new.self; dirs = c.clear-in-Ok-2.new.self })).room }
now_empty g c =
    let s = c.args.self.now in
    let b = c.self.inside.stock in
    let room = (the_view (record c.self.inside { reads = c.replace-reads.new.dest; made = c.clear.new.self; cleared = c.clear-in-Ok.new.self; dirs = c.clear-in-Ok-2.new.self })).room in
    let stock : b ≡ nothing = ap (λ (x : SessionSeen). x.parcel) c.self.view_is ∙ c.requires.reads_alone.parcel in
    let none : length b.pages ≡ 0 = ap (λ (p : Parcel). length p.pages) stock in
    let placed : c.self.inside.placed ≡ 0 = (let le = c.self.invariant.1 in omega (arith, none, le)) in
    ap (λ n. the_view (record c.self.inside { reads = c.replace-reads.new.dest; made = c.clear.new.self; cleared = c.clear-in-Ok.new.self; dirs = c.clear-in-Ok-2.new.self; placed = n })) placed
    ∙ empty_now s c.self.inside.lib c.self.inside.creds b c.self.inside.laid.items (map (made_seen b) c.clear.new.self.items) (map (made_seen b) c.clear-in-Ok.new.self.items) c.replace-reads.new.dest.items c.self.inside.calls.items
    (dir_numbers c.clear-in-Ok-2.new.self.items) c.self.inside.finds room
    (ap (λ (x : SessionSeen). x.lib) c.self.view_is) (ap (λ (x : SessionSeen). x.creds) c.self.view_is) stock
    (ap (map (made_seen b)) c.clear.ensures.items) (ap (map (made_seen b)) c.clear-in-Ok.ensures.items)
    (ap (λ (v : Vec ReadLease Global). v.items) c.replace-reads.ensures.after ∙ c.new.ensures.items)
    (ap (λ (x : SessionSeen). x.calls) c.self.view_is ∙ c.requires.reads_alone.calls)
    (ap dir_numbers c.clear-in-Ok-2.ensures.items) (ap (λ (x : SessionSeen). x.finds) c.self.view_is)

-- the session is as it was before
as_before : (g : Over) (c : goal.After-destroy_empty g) → the_view (record c.self.inside { reads = c.replace.new.dest }) ≡ c.args.self.now
as_before g c =
    let reads : c.replace.new.dest ≡ c.self.inside.reads = c.replace.ensures.after ∙ c.in-Err.ensures.leases ∙ c.replace-reads.ensures.value in
    ap (λ x. the_view (record c.self.inside { reads = x })) reads ∙ c.self.view_is

pub set_mode-requires-clause-chmod : goal.set_mode-requires-clause-chmod
set_mode-requires-clause-chmod g c =
    let reads : c.replace-reads.result.items ≡ c.args.self.now.reads =
    ap (λ (v : Vec ReadLease Global). v.items) c.replace-reads.ensures.value ∙ ap (λ (x : SessionSeen). x.reads) c.self.view_is in
    subst (λ (l : List Shown). IsChmod (g.D.Desk.seen c.args.desk.now) l c.args.ino c.args.mode c.args.call) (sym reads) c.requires.chmod

pub returns-in-Ok-clause-call : goal.returns-in-Ok-clause-call
returns-in-Ok-clause-call g c =
    let same = asked g (goal.at.returns-in-Ok-clause-call g c).After-set_mode in
    let d = g.D.Desk.seen c.args.desk.now in
    let d' = g.D.Desk.seen c.set_mode.new.self in
    Made ModeSet (subst (λ a. g.D.Desk.called c.args.desk.now a ModeSet c.set_mode.new.self) same c.in-Ok.ensures.called)
    (record { seen = subst (λ a. SeenAfter d a ModeSet d') same c.in-Ok.ensures.seen; holder = tt; cause = tt }, (refl, now_empty g c))

pub returns-in-Ok-clause-on : goal.returns-in-Ok-clause-on
returns-in-Ok-clause-on g c =
    let same = asked g (goal.at.returns-in-Ok-clause-on g c).After-set_mode in
    let d = g.D.Desk.seen c.args.desk.now in
    let d' = g.D.Desk.seen c.set_mode.new.self in
    subst (IsOn d') (sym (now_empty g c))
    (on_moded d d' c.args.ino c.args.mode (Some c.args.call) c.args.self.now (the_view (record c.self.inside { reads = c.replace-reads.new.dest; made = c.clear.new.self; cleared = c.clear-in-Ok.new.self; dirs = c.clear-in-Ok-2.new.self })).room (subst (λ a. SeenAfter d a ModeSet d') same c.in-Ok.ensures.seen) c.requires.reads_alone c.requires.on)

pub returns-in-Err-clause-call : goal.returns-in-Err-clause-call
returns-in-Err-clause-call g c =
    let same = asked g (goal.at.returns-in-Err-clause-call g c).After-set_mode in
    let told = NotModeSet c.in-Err.fault in
    let d = g.D.Desk.seen c.args.desk.now in
    let d' = g.D.Desk.seen c.set_mode.new.self in
    Made told (subst (λ a. g.D.Desk.called c.args.desk.now a told c.set_mode.new.self) same c.in-Err.ensures.called) (
      record {
        seen = subst (λ a. SeenAfter d a told d') same c.in-Err.ensures.seen;
        holder = subst (λ a. TellsHolder d.lib d.out a told) same c.in-Err.ensures.holder;
        cause = subst (λ a. TellsCause d a told) same c.in-Err.ensures.cause;
      },
      (ap (λ call. Err (call, c.in-Err.fault)) c.in-Err.ensures.call, as_before g c),
    )

pub returns-in-Err-clause-on : goal.returns-in-Err-clause-on
returns-in-Err-clause-on g c =
    subst (IsOn (g.D.Desk.seen c.set_mode.new.self)) (sym (as_before g c))
    (on_still (g.D.Desk.seen c.args.desk.now) (g.D.Desk.seen c.set_mode.new.self) (SetMode c.args.ino c.args.mode c.replace-reads.result.items (Some c.args.call)) (NotModeSet c.in-Err.fault) c.args.self.now c.in-Err.ensures.seen refl c.requires.on)
