use Rattle.trio_walk.proofs.Words.{◌∙◌, ◌≡◌, EntryPart, Kind, List, Some, ap, body_in_slot, every_number, get_or, met_of, number_at, option_map, rights_at, slot_bytes, sym, w32, ℕ}
use Rattle.trio_rights.proofs.KindFacts.{kind_byte-same}
use Rattle.trio_walk.specs.declared.met.Rights.{Rights}
use Rattle.trio_walk.proofs.SlotFields.{slot_entry}
use Rattle.trio_walk.proofs.met.slot_met.Goals as goal

pub unreachable-requires : goal.unreachable-requires
unreachable-requires c =
    let x = slot_entry every_number (slot_bytes c.args.slot c.args.page.now) c.requires.entry in
    c.in_default.ensures.none x.0.kind (ap (λ (b : List ℕ). get_or (slot_bytes c.args.slot b) 4 0) c.bytes.ensures.bytes ∙ x.1.kind)

pub returns : goal.returns
returns c =
    let page = c.args.page.now in
    let slot = c.args.slot in
    let x = slot_entry every_number (slot_bytes slot page) c.requires.entry in
    let ino : x.0.ino ≡ c.u32_in.result = sym x.1.ino ∙ ap (λ (b : List ℕ). number_at w32 0 (slot_bytes slot b)) (sym c.bytes.ensures.bytes) ∙ sym c.u32_in.ensures in
    let kind : x.0.kind ≡ c.in-Some.kind =
    kind_byte-same x.0.kind c.in-Some.kind (sym x.1.kind ∙ ap (λ (b : List ℕ). get_or (slot_bytes slot b) 4 0) (sym c.bytes.ensures.bytes) ∙ c.in-Some.ensures.found) in
    let rights : rights_at (body_in_slot slot page) ≡ c.rights_in.result =
    sym (c.rights_in.ensures ∙ ap (λ (b : List ℕ). rights_at (body_in_slot slot b)) c.bytes-2.ensures.bytes) in
    ap (option_map (λ (e : EntryPart). met_of slot e page)) x.1.says
    ∙ ap (λ (n : ℕ). Some (record { ino = n; kind = x.0.kind; rights = Some (rights_at (body_in_slot slot page)) })) ino
    ∙ ap (λ (k : Kind). Some (record { ino = c.u32_in.result; kind = k; rights = Some (rights_at (body_in_slot slot page)) })) kind
    ∙ ap (λ (r : Rights). Some (record { ino = c.u32_in.result; kind = c.in-Some.kind; rights = Some r })) rights
