use Rattle.trio_session.proofs.Words.{◌%◌, ◌+◌, ◌-◌, ◌<◌, ◌∙◌, ◌≡◌, ◌≤◌, Chain, FindsFile, GrowDone, In, IsFileOn, List, MayGrowAt, Parcel, SessionSeen, Some, ap, arith, block_count, body_at, body_in, chain_at, chain_grown, chain_in, dir_numbers, drop, grown_file, growth, home_in, inl, inr, is_some, length, length-map, made_seen, map, open_kind, option_map, page_numbers, refl, room_laid, size_in, spare_pages, subst, sym, take, with_chain, ℕ}
use Rattle.trio_session.proofs.Grows.{within_spare}
use Rattle.trio_session.proofs.Insides.{files_in}
use Rattle.trio_session.proofs.Opens.{has_file, is_there, may_grow, open_some, shows_view}
use Rattle.trio_session.specs.Seen.{grown}
use Rattle.trio_session.specs.contracts.session.Session.{the_view}
use Rattle.trio_session.proofs.Chained.{IsAnew, found_relaid, made_many, relaid_as, relaid_edit, shown_anew}
use Rattle.trio_session.proofs.Chains.{blocks_length}
use Rattle.trio_session.proofs.Growing.{IsGrowth, dir_place, growth_inside, growth_leaves, indexed_grown}
use Rattle.trio_session.proofs.Opens.{leaves_place, made_left}
use Rattle.trio_session.proofs.Rooms.{names_told, numbers_told, slots_told}
use Rattle.trio_session.proofs.session.Session.grow.Goals as goal

pub grow_one-self-inside-requires-clause-there : goal.grow_one-self-inside-requires-clause-there
grow_one-self-inside-requires-clause-there c =
    let s = c.self.inside in
    is_there c.args.self.now (files_in s) c.args.ino (shows_view c.args.self.now s c.self.view_is) (open_some c.args.self.now c.args.ino c.args.size c.requires.open)

pub grow_one-self-inside-requires-clause-may : goal.grow_one-self-inside-requires-clause-may
grow_one-self-inside-requires-clause-may c = λ file l found.
    may_grow c.args.self.now c.self.inside c.args.ino c.args.size file l c.self.view_is c.self.invariant found c.requires.size c.requires.pages c.requires.room

pub tell_growth-requires-clause-place : goal.tell_growth-requires-clause-place
tell_growth-requires-clause-place c = λ directory more.
    subst (λ (x : SessionSeen). In c.args.ino x.room.slots) (sym c.self.view_is)
    (dir_place c.args.self.now c.args.ino c.args.size c.requires.open (sym c.open_kind.ensures ∙ c.unwrap-kind.ensures ∙ ap Some directory))

pub invariant_of-self : goal.invariant_of-self
invariant_of-self c =
    let s = c.self.inside in
    let v = c.args.self.now in
    let ino = c.args.ino in
    let size = c.args.size in
    let k = c.unwrap-kind.result in
    let next = c.grow_one-self-inside.result in
    let b' = c.grow_one-self-inside.new.stock in
    let ls' = c.grow_one-self-inside.new.laid.items in
    let ms' = c.grow_one-self-inside.new.made.items in
    let ds' = c.tell_growth.new.dirs.items in
    let on : IsFileOn v ino c.unwrap.result.0 c.unwrap.result.1.now = subst (λ o. FindsFile v ino (option_map (λ o. (o.0, o.1.now)) o)) c.unwrap.ensures c.file_on.ensures in
    let len : length (chain_in v ino).blocks ≡ c.blocks_len.result =
    ap (λ (ch : Chain). length ch.blocks) (sym on.chain) ∙ blocks_length v.parcel c.unwrap.result.0 c.unwrap.result.1.now on.is_file ∙ sym c.blocks_len.ensures in
    let count : c.div_ceil.result ≡ block_count size = omega (arith, c.div_ceil.ensures) in
    let more = c.div_ceil.result - c.blocks_len.result in
    let g : IsGrowth v s ino size k next b' ls' ms' ds' more = record {
      view = c.self.view_is;
      is = c.self.invariant;
      may = c.requires.open;
      kind = sym c.open_kind.ensures ∙ c.unwrap-kind.ensures;
      size_more = c.requires.size;
      pages = c.requires.pages;
      room = c.requires.room;
      relaid = c.grow_one-self-inside.ensures.relaid;
      many = ap (λ n. n - c.blocks_len.result) count ∙ ap (λ n. block_count size - n) (sym len);
      told = c.tell_growth.ensures;
    } in
    growth_inside v s ino size k next b' ls' ms' ds' more g

pub returns-clause-room : goal.returns-clause-room
returns-clause-room c =
    let s = c.self.inside in
    let k = c.unwrap-kind.result in
    record {
      calls = ap (λ (x : SessionSeen). x.room.calls) c.self.view_is;
      slots = λ n apart i. slots_told k (c.div_ceil.result - c.blocks_len.result) s.dirs.items c.tell_growth.new.dirs.items c.args.ino n c.tell_growth.ensures apart (subst (λ (x : SessionSeen). In n x.room.slots) (sym c.self.view_is) i);
      names = λ n apart i. names_told k (c.div_ceil.result - c.blocks_len.result) s.dirs.items c.tell_growth.new.dirs.items c.args.ino n c.self.invariant.4.once c.tell_growth.ensures (subst (λ (x : SessionSeen). In n x.room.names) (sym c.self.view_is) i);
    }

pub returns-clause-names : goal.returns-clause-names
returns-clause-names c = λ i.
    names_told c.unwrap-kind.result (c.div_ceil.result - c.blocks_len.result) c.self.inside.dirs.items c.tell_growth.new.dirs.items c.args.ino c.args.ino c.self.invariant.4.once c.tell_growth.ensures
    (subst (λ (x : SessionSeen). In c.args.ino x.room.names) (sym c.self.view_is) i)

pub returns-clause-next : goal.returns-clause-next
returns-clause-next c = ap (λ (x : SessionSeen). x.room.next_blocks) c.self.view_is

pub returns-clause-place : goal.returns-clause-place
returns-clause-place c =
    let s = c.self.inside in
    let b' = c.grow_one-self-inside.new.stock in
    let done = GrowDone s.stock b' c.args.size s.placed c.grow_one-self-inside.result in
    let many = made_many done s.stock s.laid.items c.grow_one-self-inside.new.laid.items s.made.items c.grow_one-self-inside.new.made.items c.args.ino c.grow_one-self-inside.ensures.relaid in
    leaves_place c.args.self.now s b' c.grow_one-self-inside.new.made c.self.view_is (length-map c.grow_one-self-inside.new.made.items (made_seen b') ∙ many) c.grow_one-self-inside.ensures.places

pub returns-clause-sized : goal.returns-clause-sized
returns-clause-sized c =
    let s = c.self.inside in
    let v = c.args.self.now in
    let ino = c.args.ino in
    let size = c.args.size in
    let k = c.unwrap-kind.result in
    let next = c.grow_one-self-inside.result in
    let b' = c.grow_one-self-inside.new.stock in
    let ls' = c.grow_one-self-inside.new.laid.items in
    let ms' = c.grow_one-self-inside.new.made.items in
    let ds' = c.tell_growth.new.dirs.items in
    let on : IsFileOn v ino c.unwrap.result.0 c.unwrap.result.1.now = subst (λ o. FindsFile v ino (option_map (λ o. (o.0, o.1.now)) o)) c.unwrap.ensures c.file_on.ensures in
    let len : length (chain_in v ino).blocks ≡ c.blocks_len.result =
    ap (λ (ch : Chain). length ch.blocks) (sym on.chain) ∙ blocks_length v.parcel c.unwrap.result.0 c.unwrap.result.1.now on.is_file ∙ sym c.blocks_len.ensures in
    let count : c.div_ceil.result ≡ block_count size = omega (arith, c.div_ceil.ensures) in
    let more = c.div_ceil.result - c.blocks_len.result in
    let g : IsGrowth v s ino size k next b' ls' ms' ds' more = record {
      view = c.self.view_is;
      is = c.self.invariant;
      may = c.requires.open;
      kind = sym c.open_kind.ensures ∙ c.unwrap-kind.ensures;
      size_more = c.requires.size;
      pages = c.requires.pages;
      room = c.requires.room;
      relaid = c.grow_one-self-inside.ensures.relaid;
      many = ap (λ n. n - c.blocks_len.result) count ∙ ap (λ n. block_count size - n) (sym len);
      told = c.tell_growth.ensures;
    } in
    let all = record s { stock = b'; laid = c.grow_one-self-inside.new.laid; made = c.grow_one-self-inside.new.made; dirs = c.tell_growth.new.dirs; placed = next } in
    let f = found_relaid (GrowDone s.stock b' size s.placed next) s.stock b' s.laid.items ls' s.made.items ms' ino (growth_leaves v s ino size k next b' ls' ms' ds' more g) c.grow_one-self-inside.ensures.relaid in
    let here = has_file (the_view all) all ino f.0 f.2 refl (growth_inside v s ino size k next b' ls' ms' ds' more g) f.3 in
    ap size_in (sym here.body) ∙ f.4.sized

pub returns-clause-kept : goal.returns-clause-kept
unfolding grown
returns-clause-kept c =
    let s = c.self.inside in
    let v = c.args.self.now in
    let ino = c.args.ino in
    let size = c.args.size in
    let k = c.unwrap-kind.result in
    let next = c.grow_one-self-inside.result in
    let b' = c.grow_one-self-inside.new.stock in
    let ls' = c.grow_one-self-inside.new.laid.items in
    let ms' = c.grow_one-self-inside.new.made.items in
    let ds' = c.tell_growth.new.dirs.items in
    let on : IsFileOn v ino c.unwrap.result.0 c.unwrap.result.1.now = subst (λ o. FindsFile v ino (option_map (λ o. (o.0, o.1.now)) o)) c.unwrap.ensures c.file_on.ensures in
    let len : length (chain_in v ino).blocks ≡ c.blocks_len.result =
    ap (λ (ch : Chain). length ch.blocks) (sym on.chain) ∙ blocks_length v.parcel c.unwrap.result.0 c.unwrap.result.1.now on.is_file ∙ sym c.blocks_len.ensures in
    let count : c.div_ceil.result ≡ block_count size = omega (arith, c.div_ceil.ensures) in
    let more = c.div_ceil.result - c.blocks_len.result in
    let g : IsGrowth v s ino size k next b' ls' ms' ds' more = record {
      view = c.self.view_is;
      is = c.self.invariant;
      may = c.requires.open;
      kind = sym c.open_kind.ensures ∙ c.unwrap-kind.ensures;
      size_more = c.requires.size;
      pages = c.requires.pages;
      room = c.requires.room;
      relaid = c.grow_one-self-inside.ensures.relaid;
      many = ap (λ n. n - c.blocks_len.result) count ∙ ap (λ n. block_count size - n) (sym len);
      told = c.tell_growth.ensures;
    } in
    let u = the_view s in
    let b = s.stock in
    let count = block_count size in
    let spare = drop s.placed (page_numbers b.pages) in
    let wanted : Chain → ℕ = λ ch. growth (length ch.blocks) count in
    let now : Chain → Chain = λ ch. chain_grown ch count (take (wanted ch) spare) in
    let chain = now (chain_in u ino) in
    let leaves = growth_leaves v s ino size k next b' ls' ms' ds' more g in
    let relaid = c.grow_one-self-inside.ensures.relaid in
    let done = GrowDone b b' size s.placed next in
    let anew = relaid_as done (IsAnew b b' chain) b s.laid.items ls' s.made.items ms' ino (λ file l l' found is. record {
      is = is.laid;
      has = is.has;
      now = is.chain ∙ ap now (has_file u s ino file l refl c.self.invariant found).chain;
      others = is.others;
    }) relaid in
    let ks = map (made_seen b') s.cleared.items in
    let one : SessionSeen = record u { cleared = ks } in
    let all = record s { stock = b'; laid = c.grow_one-self-inside.new.laid; made = c.grow_one-self-inside.new.made; dirs = c.tell_growth.new.dirs; placed = next } in
    let room = (the_view all).room in
    let gone = made_left b b' s.cleared.items leaves in
    let shown = shown_anew one s.reads.items (files_in s) b' ls' ms' ino chain (record { parcel = refl; chains = refl; made = refl; cleared = gone }) c.self.invariant.0 c.self.invariant.3.numbered leaves anew in
    let edit = relaid_edit done b s.laid.items ls' s.made.items ms' ino relaid in
    let here = has_file u s ino edit.0 edit.1 refl c.self.invariant edit.3 in
    let parcel : b' ≡ grown_file (home_in u ino) (chain_in u ino) (body_in u ino) size (take (wanted (chain_in u ino)) spare) b =
    edit.4.edit
    ∙ ap (λ h. grown_file h (chain_at b edit.0 edit.1) (body_at b edit.0) size (take (wanted (chain_at b edit.0 edit.1)) spare) b) here.home
    ∙ ap (λ (ch : Chain). grown_file (home_in u ino) ch (body_at b edit.0) size (take (wanted ch) spare) b) here.chain
    ∙ ap (λ w. grown_file (home_in u ino) (chain_in u ino) w size (take (wanted (chain_in u ino)) spare) b) here.body in
    let placed : next ≡ s.placed + wanted (chain_in u ino) = edit.4.ends ∙ ap (λ (ch : Chain). s.placed + wanted ch) here.chain in
    ap (λ (x : SessionSeen). record x { parcel = b'; placed = next; indexed = dir_numbers ds'; room = room }) (shown ∙ ap (λ q. with_chain ino chain (record u { cleared = q })) gone)
    ∙ ap (λ (p : Parcel). record (with_chain ino chain u) { parcel = p; placed = next; indexed = dir_numbers ds'; room = room }) parcel
    ∙ ap (λ n. record (with_chain ino chain u) { parcel = grown_file (home_in u ino) (chain_in u ino) (body_in u ino) size (take (wanted (chain_in u ino)) spare) b; placed = n; indexed = dir_numbers ds'; room = room }) placed
    ∙ indexed_grown u ino size ds' room (numbers_told k more s.dirs.items ds' ino c.tell_growth.ensures)
    ∙ ap (λ (x : SessionSeen). record (grown ino size x) { room = room }) c.self.view_is
