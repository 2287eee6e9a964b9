use Rattle.trio_calls_dir.proofs.Words.{◌+◌, ◌∙◌, ◌≡◌, ◌≤◌, Allots, Directory, SessionSeen, alike_room, ap, block_count, chain_in, length, on_alike, open_chain, room_in, size_in, slot_growth, subst, sym, new_pages}
use Rattle.trio_session.proofs.Shows.{body_had-open}
use Rattle.trio_edit_laws.proofs.Had.{open_had}
use Rattle.trio_calls_dir.proofs.RoomsMade.{may_add, room_lacked, room_made, room_short}
use Rattle.trio_calls_dir.proofs.rooms.make_room.Goals as goal

pub size_of-size-requires : goal.size_of-size-requires
size_of-size-requires g c = open_had (g.D.Desk.seen c.args.desk.now) c.args.session.now c.args.dir c.requires.may.edits c.creds-creds.ensures.limits Directory c.requires.open.directory

pub slot_growth-requires-clause-blocks : goal.slot_growth-requires-clause-blocks
slot_growth-requires-clause-blocks g c =
    c.block_count-blocks.ensures.count
    ∙ ap block_count (c.size_of-size.ensures.size ∙ ap size_in (body_had-open c.args.session.now c.args.dir Directory c.requires.open.directory))
    ∙ (open_chain (g.D.Desk.seen c.args.desk.now) c.args.session.now c.args.dir Directory c.requires.may.edits c.requires.open.directory).count
    ∙ sym (ap (λ (q : SessionSeen). length (chain_in q c.args.dir).blocks) c.entry_places.ensures.kept)

pub allot-requires : goal.allot-requires
allot-requires g c =
    on_alike (g.D.Desk.seen c.args.desk.now) c.args.session.now c.entry_places.new.session (alike_room c.args.session.now c.entry_places.new.session c.entry_places.ensures.kept) c.requires.may.edits.on

pub add_slot-requires : goal.add_slot-requires
add_slot-requires g c =
    let pages : c.slot_growth.result + c.growth.result ≡ slot_growth c.args.session.now c.args.dir + new_pages c.args.new_size = ap (λ n. n + c.growth.result) (c.slot_growth.ensures ∙ ap (λ (q : SessionSeen). slot_growth q c.args.dir) c.entry_places.ensures.kept) ∙ ap (λ n. slot_growth c.args.session.now c.args.dir + n) c.growth.ensures in
    may_add g.D.Desk.called g.D.Desk.seen c.args.desk.now c.args.session.now c.args.dir c.args.numbers c.args.new_size c.requires.may c.entry_places.new.session c.entry_places.ensures.kept c.allot.new.desk c.allot.new.session c.allot.result c.allot.ensures.room c.allot.ensures.on
    (subst (λ n. Allots g.D.Desk.called g.D.Desk.seen c.args.desk.now c.entry_places.new.session n c.args.numbers c.allot.result c.allot.new.desk c.allot.new.session) pages c.allot.ensures.allots)
    c.requires.open c.creds-creds.ensures.limits c.size_of-size.result (c.size_of-size.ensures.size ∙ ap size_in (body_had-open c.args.session.now c.args.dir Directory c.requires.open.directory)) c.size_of-size.ensures.few
    (record {
      calls = c.in-Ok.ensures.calls;
      made = c.in-Ok.ensures.made;
      next = subst (λ n. n ≤ c.entry_places.new.session.room.next_blocks) c.block_count.ensures.count c.in-Ok.ensures.next;
      blocks = subst (λ n. n + 1 ≤ room_in c.entry_places.new.session c.args.dir) c.block_count-blocks.ensures.count c.in-Ok.ensures.blocks;
      slots = c.in-Ok.ensures.slots;
      names = c.in-Ok.ensures.names;
    })
    c.in-Ok-allot.is

pub returns-in-Ok-allot : goal.returns-in-Ok-allot
returns-in-Ok-allot g c =
    let pages : c.slot_growth.result + c.growth.result ≡ slot_growth c.args.session.now c.args.dir + new_pages c.args.new_size = ap (λ n. n + c.growth.result) (c.slot_growth.ensures ∙ ap (λ (q : SessionSeen). slot_growth q c.args.dir) c.entry_places.ensures.kept) ∙ ap (λ n. slot_growth c.args.session.now c.args.dir + n) c.growth.ensures in
    record {
      room =
          room_made g.D.Desk.called g.D.Desk.seen c.args.desk.now c.args.session.now c.args.dir c.args.numbers c.args.new_size c.requires.may c.entry_places.new.session c.entry_places.ensures.kept c.allot.new.desk c.allot.new.session c.allot.result c.allot.ensures.room c.allot.ensures.on
          (subst (λ n. Allots g.D.Desk.called g.D.Desk.seen c.args.desk.now c.entry_places.new.session n c.args.numbers c.allot.result c.allot.new.desk c.allot.new.session) pages c.allot.ensures.allots)
          c.requires.open c.creds-creds.ensures.limits c.size_of-size.result (c.size_of-size.ensures.size ∙ ap size_in (body_had-open c.args.session.now c.args.dir Directory c.requires.open.directory)) c.size_of-size.ensures.few
          (record {
            calls = c.in-Ok.ensures.calls;
            made = c.in-Ok.ensures.made;
            next = subst (λ n. n ≤ c.entry_places.new.session.room.next_blocks) c.block_count.ensures.count c.in-Ok.ensures.next;
            blocks = subst (λ n. n + 1 ≤ room_in c.entry_places.new.session c.args.dir) c.block_count-blocks.ensures.count c.in-Ok.ensures.blocks;
            slots = c.in-Ok.ensures.slots;
            names = c.in-Ok.ensures.names;
          })
          c.in-Ok-allot.is c.add_slot.new.session c.add_slot.ensures.kept c.add_slot.ensures.calls c.add_slot.ensures.names c.add_slot.ensures.place c.add_slot.ensures.next;
    }

pub returns-in-Err-allot : goal.returns-in-Err-allot
returns-in-Err-allot g c =
    let pages : c.slot_growth.result + c.growth.result ≡ slot_growth c.args.session.now c.args.dir + new_pages c.args.new_size = ap (λ n. n + c.growth.result) (c.slot_growth.ensures ∙ ap (λ (q : SessionSeen). slot_growth q c.args.dir) c.entry_places.ensures.kept) ∙ ap (λ n. slot_growth c.args.session.now c.args.dir + n) c.growth.ensures in
    record {
      room =
          room_lacked g.D.Desk.called g.D.Desk.seen c.args.desk.now c.args.session.now c.args.dir c.args.numbers c.args.new_size c.requires.may c.entry_places.new.session c.entry_places.ensures.kept c.allot.new.desk c.allot.new.session c.allot.result c.allot.ensures.room c.allot.ensures.on
          (subst (λ n. Allots g.D.Desk.called g.D.Desk.seen c.args.desk.now c.entry_places.new.session n c.args.numbers c.allot.result c.allot.new.desk c.allot.new.session) pages c.allot.ensures.allots)
          c.in-Ok.ensures.calls c.in-Err-allot.fault c.in-Err-allot.is;
    }

pub returns-in-Err : goal.returns-in-Err
returns-in-Err g c = record {
  room = room_short g.D.Desk.called g.D.Desk.seen c.args.desk.now c.args.session.now c.args.dir c.args.numbers c.args.new_size c.requires.may c.entry_places.new.session c.entry_places.ensures.kept;
}
