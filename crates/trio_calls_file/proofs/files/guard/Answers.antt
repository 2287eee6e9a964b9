use Rattle.trio_calls_file.proofs.Words.{◌≡◌, ◌<◌, ◌∙◌, SessionSeen, IsAlike, alike_room, ap, length, refl, subst, sym}
use Rattle.trio_session.specs.Seen.{Room, set_guard}
use Rattle.trio_session.proofs.Others.{guard_alike}
use Rattle.trio_calls_file.proofs.files.guard.Goals as goal

pub returns-in-Ok : goal.returns-in-Ok
unfolding set_guard
returns-in-Ok c =
    let s : SessionSeen = c.args.session.now in
    let r : SessionSeen = c.reserve_call.new.self in
    let t : SessionSeen = c.set_guard.new.self in
    let kept = c.reserve_call.ensures.kept in
    let same : r ≡ record s { room = r.room } = kept ∙ ap (λ (q : Room). record s { room = q }) (sym (ap (λ (x : SessionSeen). x.room) kept)) in
    let near : IsAlike (set_guard c.args.ino c.args.on s) t =
    subst (λ (x : SessionSeen). IsAlike (set_guard c.args.ino c.args.on s) x) (sym c.set_guard.ensures) (guard_alike c.args.ino c.args.on s r (alike_room s r same)) in
    let calls = ap (λ (x : SessionSeen). x.calls) kept in
    let room = ap (λ (x : SessionSeen). x.room) c.set_guard.ensures in
    record { ends = (refl, near, subst (λ (q : Room). length s.calls < q.calls) (sym room) (subst (λ xs. length xs < r.room.calls) calls c.in-Ok.ensures.room)) }
