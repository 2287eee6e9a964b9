use Rattle.trio_calls_file.proofs.Words.{◌+◌, ◌∙◌, ◌≡◌, Count, Goes, IsAlike, IsNotBusy, IsReplied, List, Regular, Replied, SessionSeen, Write, alike_room, ap, arith, body_had-open, body_in, bytes_in, edited, eqb, eqb-true, false, length, max, put, put_alike, put_at, refl, size_in, sized, subst, sym, true, try_ends, wants_pages_for, ℕ, is_directory, option_map}
use Rattle.trio_calls_file.proofs.Alike.{edited_none, edited_some, open_alike}
use Rattle.trio_calls_file.proofs.Ends.{blocks_room, calls_room, edits_room, goes_done, goes_fault, idle_fault, none_room, old_room, open_room, pages_room, put_at-none, put_room, size_none, size_room, size_some, size_within, writes_bytes}
use Rattle.trio_calls_file.proofs.Writes.{Edits, edits_alike, room_put}
use Rattle.trio_calls_file.proofs.files.write.Goals as goal

pub resize-requires-clause-open : goal.resize-requires-clause-open
resize-requires-clause-open g c =
    let o = c.requires.open in
    let old = c.size_of-old.ensures.size ∙ ap size_in (body_had-open c.args.session.now c.args.ino Regular o) in
    ap (option_map is_directory) (open_room g.D.Desk.called g.D.Desk.seen c.args.desk.now c.args.session.now c.args.ino c.size_of-old.result c.size_written-size.result c.make_room.result c.make_room.new.desk c.make_room.new.session o old c.make_room.ensures.room)

pub resize-requires-clause-old : goal.resize-requires-clause-old
resize-requires-clause-old g c =
    let o = c.requires.open in
    let old = c.size_of-old.ensures.size ∙ ap size_in (body_had-open c.args.session.now c.args.ino Regular o) in
    old_room g.D.Desk.called g.D.Desk.seen c.args.desk.now c.args.session.now c.args.ino c.size_of-old.result c.size_written-size.result c.make_room.result c.make_room.new.desk c.make_room.new.session o old c.make_room.ensures.room

pub resize-requires-clause-pages : goal.resize-requires-clause-pages
resize-requires-clause-pages g c =
    let o = c.requires.open in
    let old = c.size_of-old.ensures.size ∙ ap size_in (body_had-open c.args.session.now c.args.ino Regular o) in
    pages_room g.D.Desk.called g.D.Desk.seen c.args.desk.now c.args.session.now c.args.ino c.size_of-old.result c.size_written-size.result c.make_room.result c.make_room.new.desk c.make_room.new.session o old c.make_room.ensures.room c.in-Ok.is

pub resize-requires-clause-room : goal.resize-requires-clause-room
resize-requires-clause-room g c =
    let o = c.requires.open in
    let old = c.size_of-old.ensures.size ∙ ap size_in (body_had-open c.args.session.now c.args.ino Regular o) in
    blocks_room g.D.Desk.called g.D.Desk.seen c.args.desk.now c.args.session.now c.args.ino c.size_of-old.result c.size_written-size.result c.make_room.result c.make_room.new.desk c.make_room.new.session o old c.make_room.ensures.room c.in-Ok.is

pub put-requires-clause-open : goal.put-requires-clause-open
put-requires-clause-open g c =
    let o = c.requires.open in
    let old = c.size_of-old.ensures.size ∙ ap size_in (body_had-open c.args.session.now c.args.ino Regular o) in
    let largest = size_within (length c.args.bytes.now) c.size_of-old.result c.args.at c.size_written-size.result c.size_written-size.ensures c.size_of-old.ensures.few c.requires.within in
    let s1 = c.make_room.new.session in
    let alike = alike_room (sized c.args.ino c.size_written-size.result s1) c.resize.new.session c.resize.ensures.kept in
    ap (option_map is_directory) (open_alike (sized c.args.ino c.size_written-size.result s1) c.resize.new.session c.args.ino alike (edits_room g.D.Desk.called g.D.Desk.seen c.args.desk.now c.args.session.now c.args.ino c.size_of-old.result c.size_written-size.result c.make_room.result c.make_room.new.desk c.make_room.new.session o old c.make_room.ensures.room c.in-Ok.is c.requires.limits largest).writable)

pub put-requires-clause-within : goal.put-requires-clause-within
put-requires-clause-within g c =
    let o = c.requires.open in
    let old = c.size_of-old.ensures.size ∙ ap size_in (body_had-open c.args.session.now c.args.ino Regular o) in
    let largest = size_within (length c.args.bytes.now) c.size_of-old.result c.args.at c.size_written-size.result c.size_written-size.ensures c.size_of-old.ensures.few c.requires.within in
    let some : eqb (length c.args.bytes.now) 0 ≡ false = sym c.is_empty.ensures ∙ c.if-is_empty.false in
    let size_is = size_some (length c.args.bytes.now) c.size_of-old.result c.args.at c.size_written-size.result c.size_written-size.ensures some in
    let s1 = c.make_room.new.session in
    let alike = alike_room (sized c.args.ino c.size_written-size.result s1) c.resize.new.session c.resize.ensures.kept in
    let is : size_in (body_in c.resize.new.session c.args.ino) ≡ c.size_written-size.result = ap (λ q. size_in (body_in q c.args.ino)) alike ∙ size_room g.D.Desk.called g.D.Desk.seen c.args.desk.now c.args.session.now c.args.ino c.size_of-old.result c.size_written-size.result c.make_room.result c.make_room.new.desk c.make_room.new.session o old c.make_room.ensures.room c.in-Ok.is c.requires.limits largest in
    omega (arith, is, size_is)

pub returns-in-Ok-clause-goes : goal.returns-in-Ok-clause-goes
returns-in-Ok-clause-goes g c path unrefused =
    let o = c.requires.open in
    let old = c.size_of-old.ensures.size ∙ ap size_in (body_had-open c.args.session.now c.args.ino Regular o) in
    let largest = size_within (length c.args.bytes.now) c.size_of-old.result c.args.at c.size_written-size.result c.size_written-size.ensures c.size_of-old.ensures.few c.requires.within in
    let none : eqb (length c.args.bytes.now) 0 ≡ true = sym c.is_empty.ensures ∙ c.if-is_empty.true in
    let size_is = size_none (length c.args.bytes.now) c.size_of-old.result c.args.at c.size_written-size.result c.size_written-size.ensures none in
    let s1 = c.make_room.new.session in
    let e = none_room g.D.Desk.called g.D.Desk.seen c.args.desk.now c.args.session.now c.args.ino c.size_of-old.result c.size_written-size.result c.make_room.result c.make_room.new.desk c.make_room.new.session o old c.make_room.ensures.room c.in-Ok.is c.requires.limits largest size_is in
    let same = put_at-none c.args.at c.args.bytes.now (bytes_in s1 c.args.ino) none in
    let call = Write path c.args.at c.args.bytes.now in
    subst (λ n. Goes g.D.Desk.called g.D.Desk.seen c.args.desk.now c.args.session.now call c.args.ino (wants_pages_for (g.D.Desk.seen c.args.desk.now).creds call) (Replied (IsReplied (Count n))) c.make_room.new.desk c.make_room.new.session)
    (eqb-true (length c.args.bytes.now) 0 none)
    (goes_done g.D.Desk.called g.D.Desk.seen c.args.desk.now c.args.session.now (Write path c.args.at c.args.bytes.now) (put_at c.args.at c.args.bytes.now) (Count (length c.args.bytes.now)) c.args.ino c.size_of-old.result c.size_written-size.result c.make_room.result c.make_room.new.desk c.make_room.new.session o (writes_bytes path c.args.at c.args.bytes.now) old (sym c.size_written-size.ensures) c.make_room.ensures.room unrefused c.in-Ok.is s1
    (subst (λ (b : List ℕ). Edits (g.D.Desk.seen c.make_room.new.desk) s1 s1 c.args.ino b) (sym same) e)
    (subst (λ (q : SessionSeen). IsAlike q s1) (sym (edited_none path c.args.ino c.args.at c.args.bytes.now s1 none)) refl)
    (calls_room g.D.Desk.called g.D.Desk.seen c.args.desk.now c.args.session.now c.args.ino c.size_of-old.result c.size_written-size.result c.make_room.result c.make_room.new.desk c.make_room.new.session o old c.make_room.ensures.room c.in-Ok.is s1 refl refl))

pub returns-in-Ok-2-clause-goes : goal.returns-in-Ok-2-clause-goes
returns-in-Ok-2-clause-goes g c path unrefused =
    let o = c.requires.open in
    let old = c.size_of-old.ensures.size ∙ ap size_in (body_had-open c.args.session.now c.args.ino Regular o) in
    let largest = size_within (length c.args.bytes.now) c.size_of-old.result c.args.at c.size_written-size.result c.size_written-size.ensures c.size_of-old.ensures.few c.requires.within in
    let some : eqb (length c.args.bytes.now) 0 ≡ false = sym c.is_empty.ensures ∙ c.if-is_empty.false in
    let size_is = size_some (length c.args.bytes.now) c.size_of-old.result c.args.at c.size_written-size.result c.size_written-size.ensures some in
    let s1 = c.make_room.new.session in
    let alike = alike_room (sized c.args.ino c.size_written-size.result s1) c.resize.new.session c.resize.ensures.kept in
    let bytes = c.args.bytes.now in
    let then' = put c.args.ino c.args.at bytes c.resize.new.session in
    let put_then : IsAlike (put c.args.ino c.args.at bytes (sized c.args.ino c.size_written-size.result s1)) then' =
    put_alike c.args.ino c.args.at bytes (sized c.args.ino c.size_written-size.result s1) c.resize.new.session alike in
    let t = c.put.new.self in
    let is : t ≡ then' = c.put.ensures in
    let end : IsAlike (put c.args.ino c.args.at bytes (sized c.args.ino c.size_written-size.result s1)) t = subst (λ (q : SessionSeen). IsAlike (put c.args.ino c.args.at bytes (sized c.args.ino c.size_written-size.result s1)) q) (sym is) put_then in
    let e = edits_alike (g.D.Desk.seen c.make_room.new.desk) s1 (put c.args.ino c.args.at bytes (sized c.args.ino c.size_written-size.result s1)) t c.args.ino (put_at c.args.at bytes (bytes_in s1 c.args.ino)) end
    (put_room g.D.Desk.called g.D.Desk.seen c.args.desk.now c.args.session.now c.args.ino c.size_of-old.result c.size_written-size.result c.make_room.result c.make_room.new.desk c.make_room.new.session o old c.make_room.ensures.room c.in-Ok.is c.requires.limits c.args.at bytes some c.requires.within c.size_of-old.ensures.few size_is) in
    let edit : IsAlike (edited (Write path c.args.at bytes) c.args.ino s1) t =
    subst (λ (q : SessionSeen). IsAlike q t) (sym (edited_some path c.args.ino c.args.at bytes s1 some))
    (subst (λ n. IsAlike (put c.args.ino c.args.at bytes (sized c.args.ino n s1)) t) (size_is ∙ ap (λ n. max n (c.args.at + length bytes)) (old_room g.D.Desk.called g.D.Desk.seen c.args.desk.now c.args.session.now c.args.ino c.size_of-old.result c.size_written-size.result c.make_room.result c.make_room.new.desk c.make_room.new.session o old c.make_room.ensures.room)) end) in
    goes_done g.D.Desk.called g.D.Desk.seen c.args.desk.now c.args.session.now (Write path c.args.at c.args.bytes.now) (put_at c.args.at c.args.bytes.now) (Count (length c.args.bytes.now)) c.args.ino c.size_of-old.result c.size_written-size.result c.make_room.result c.make_room.new.desk c.make_room.new.session o (writes_bytes path c.args.at c.args.bytes.now) old (sym c.size_written-size.ensures) c.make_room.ensures.room unrefused c.in-Ok.is t e edit
    (calls_room g.D.Desk.called g.D.Desk.seen c.args.desk.now c.args.session.now c.args.ino c.size_of-old.result c.size_written-size.result c.make_room.result c.make_room.new.desk c.make_room.new.session o old c.make_room.ensures.room c.in-Ok.is t e.calls (room_put c.args.ino c.args.at bytes c.resize.new.session t is ∙ c.resize.ensures.calls))

pub returns-in-Err-clause-goes : goal.returns-in-Err-clause-goes
returns-in-Err-clause-goes g c path unrefused =
    let o = c.requires.open in
    let old = c.size_of-old.ensures.size ∙ ap size_in (body_had-open c.args.session.now c.args.ino Regular o) in
    subst (λ r. Goes g.D.Desk.called g.D.Desk.seen c.args.desk.now c.args.session.now (Write path c.args.at c.args.bytes.now) c.args.ino (wants_pages_for (g.D.Desk.seen c.args.desk.now).creds (Write path c.args.at c.args.bytes.now)) (try_ends r) c.make_room.new.desk c.make_room.new.session) (sym c.allot_reply.ensures)
    (goes_fault g.D.Desk.called g.D.Desk.seen c.args.desk.now c.args.session.now (Write path c.args.at c.args.bytes.now) (put_at c.args.at c.args.bytes.now) (Count (length c.args.bytes.now)) c.args.ino c.size_of-old.result c.size_written-size.result c.make_room.result c.make_room.new.desk c.make_room.new.session o (writes_bytes path c.args.at c.args.bytes.now) old (sym c.size_written-size.ensures) c.make_room.ensures.room unrefused c.in-Err.fault c.in-Err.is)

pub returns-in-Err-clause-idle : goal.returns-in-Err-clause-idle
returns-in-Err-clause-idle g c = subst (λ r. IsNotBusy (try_ends r)) (sym c.allot_reply.ensures) (idle_fault c.in-Err.fault)
