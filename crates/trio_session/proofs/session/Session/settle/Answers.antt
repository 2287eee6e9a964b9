use Rattle.trio_session.proofs.Words.{◌∙◌, ◌≡◌, Global, IsOn, NotSettled, Ok, ReadLease, SeenAfter, SessionSeen, Settle, Settled, ap, dir_numbers, made_seen, map, parcel_of, refl, subst, sym}
use Rattle.std.proofs.Common.{Vec}
use Rattle.std.specs.Prelude.{length}
use Rattle.trio_lease.specs.Bundles.{Bundled}
use Rattle.trio_nodes.specs.declared.call.Done.{Done}
use Rattle.trio_desk.specs.Calls.{Made}
use Rattle.trio_session.specs.contracts.session.Session.{the_view}
use Rattle.trio_session.proofs.Desks.{on_still, empty_now}
use Rattle.trio_session.proofs.session.Session.settle.Goals as goal
use Rattle.trio_session.proofs.session.Session.settle.Goals.{After-settle}
use Rattle.trio_session.proofs.session.Session.settle.Given.{Over}

-- the session as it was before
as_before : (g : Over) (c : goal.After-drop-self-inside g)
    → the_view (record c.self.inside { stock = c.replace-in-Err.new.dest; reads = c.replace-in-Err-2.new.dest; calls = c.in-Err.calls }) ≡ c.args.self.now
as_before g c =
    let stock : c.replace-in-Err.new.dest ≡ c.self.inside.stock =
    c.replace-in-Err.ensures.after ∙ c.of_bundle.ensures ∙ ap (λ (b : Bundled). parcel_of b) c.in-Err.ensures.bundle ∙ c.into_bundle-bundle.ensures ∙ c.replace.ensures.value in
    let reads : c.replace-in-Err-2.new.dest ≡ c.self.inside.reads = c.replace-in-Err-2.ensures.after ∙ c.in-Err.ensures.leases ∙ c.replace-reads.ensures.value in
    let calls : c.in-Err.calls ≡ c.self.inside.calls = c.in-Err.ensures.calls ∙ c.replace-calls.ensures.value in
    ap (λ x. the_view (record c.self.inside { stock = x; reads = c.replace-in-Err-2.new.dest; calls = c.in-Err.calls })) stock
    ∙ ap (λ x. the_view (record c.self.inside { reads = x; calls = c.in-Err.calls })) reads
    ∙ ap (λ x. the_view (record c.self.inside { calls = x })) calls
    ∙ c.self.view_is

-- what was handed in is what the session had
asked : (g : Over) (c : After-settle g) → Settle (parcel_of c.into_bundle-bundle.result) c.replace-reads.result.items c.replace-calls.result.items ≡ Settle c.args.self.now.parcel c.args.self.now.reads c.args.self.now.calls
asked g c =
    ap (λ p. Settle p c.replace-reads.result.items c.replace-calls.result.items) (c.into_bundle-bundle.ensures ∙ c.replace.ensures.value)
    ∙ ap (λ (v : Vec ReadLease Global). Settle c.self.inside.stock v.items c.replace-calls.result.items) c.replace-reads.ensures.value
    ∙ ap (λ (v : Vec Done Global). Settle c.self.inside.stock c.self.inside.reads.items v.items) c.replace-calls.ensures.value
    ∙ ap (λ (x : SessionSeen). Settle x.parcel x.reads x.calls) c.self.view_is

pub returns-in-Ok-clause-call : goal.returns-in-Ok-clause-call
returns-in-Ok-clause-call g c =
    let s = c.args.self.now in
    let count : c.len-count.result ≡ length s.calls = c.len-count.ensures ∙ c.self.inside.calls.ok.0 ∙ ap (λ (x : SessionSeen). length x.calls) c.self.view_is in
    Made Settled (subst (λ a. g.D.Desk.called c.args.desk.now a Settled c.settle.new.self) (asked g (goal.at.returns-in-Ok-clause-call g c).After-settle) c.in-Ok.ensures.called) (
      subst (λ a. SeenAfter (g.D.Desk.seen c.args.desk.now) a Settled (g.D.Desk.seen c.settle.new.self)) (asked g (goal.at.returns-in-Ok-clause-call g c).After-settle) c.in-Ok.ensures.seen,
      (
        ap Ok count,
        empty_now s c.self.inside.lib c.self.inside.creds c.replace.new.dest c.clear.new.self.items (map (made_seen c.replace.new.dest) c.clear-in-Ok.new.self.items) (map (made_seen c.replace.new.dest) c.clear-in-Ok-2.new.self.items)
            c.replace-reads.new.dest.items c.replace-calls.new.dest.items (dir_numbers c.clear-in-Ok-3.new.self.items) c.self.inside.finds
            (the_view (record c.self.inside { stock = c.replace.new.dest; laid = c.clear.new.self; made = c.clear-in-Ok.new.self; cleared = c.clear-in-Ok-2.new.self; reads = c.replace-reads.new.dest; dirs = c.clear-in-Ok-3.new.self; calls = c.replace-calls.new.dest; placed = 0 })).room
            (ap (λ (x : SessionSeen). x.lib) c.self.view_is) (ap (λ (x : SessionSeen). x.creds) c.self.view_is)
            (c.replace.ensures.after ∙ c.new.ensures)
            (ap (map (made_seen c.replace.new.dest)) c.clear-in-Ok.ensures.items)
            (ap (map (made_seen c.replace.new.dest)) c.clear-in-Ok-2.ensures.items)
            (ap (λ (v : Vec ReadLease Global). v.items) c.replace-reads.ensures.after ∙ c.new-2.ensures.items)
            (ap (λ (v : Vec Done Global). v.items) c.replace-calls.ensures.after ∙ c.new-3.ensures.items)
            (ap dir_numbers c.clear-in-Ok-3.ensures.items) (ap (λ (x : SessionSeen). x.finds) c.self.view_is),
      ),
    )

pub returns-in-Err-clause-call : goal.returns-in-Err-clause-call
returns-in-Err-clause-call g c =
    Made NotSettled (subst (λ a. g.D.Desk.called c.args.desk.now a NotSettled c.settle.new.self) (asked g (goal.at.returns-in-Err-clause-call g c).After-settle) c.in-Err.ensures.called)
    (subst (λ a. SeenAfter (g.D.Desk.seen c.args.desk.now) a NotSettled (g.D.Desk.seen c.settle.new.self)) (asked g (goal.at.returns-in-Err-clause-call g c).After-settle) c.in-Err.ensures.seen, (refl, as_before g c))

pub returns-in-Err-clause-on : goal.returns-in-Err-clause-on
returns-in-Err-clause-on g c = subst (IsOn (g.D.Desk.seen c.settle.new.self)) (sym (as_before g c))
    (on_still (g.D.Desk.seen c.args.desk.now) (g.D.Desk.seen c.settle.new.self) (Settle (parcel_of c.into_bundle-bundle.result) c.replace-reads.result.items c.replace-calls.result.items) NotSettled c.args.self.now c.in-Err.ensures.seen refl c.requires.on)
