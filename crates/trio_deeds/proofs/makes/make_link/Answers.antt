use Rattle.std.proofs.Common.{◌≡◌, ◌<◌, ◌≤◌, ◌+◌, ◌∙◌, None, Some, ap, arith, inl, refl, subst, sym, [], ℕ, List}
use Rattle.std.specs.Option.{option_map}
use Rattle.std.specs.Prelude.{false, length, unwrap_or}
use Rattle.trio_rights.specs.ByKind.{is_directory}
use Rattle.trio_rights.specs.declared.kind.Kind.TheVariants.{Link, Regular}
use Rattle.trio_layout.specs.Body.{block_count, body_of}
use Rattle.trio_layout.specs.Chain.{Chain, index_count}
use Rattle.trio_nodes.specs.Apply.{link_mode}
use Rattle.trio_session.specs.Deeds.{link_made, new_body, new_number}
use Rattle.trio_session.specs.Layout.{growth, size_in}
use Rattle.trio_session.specs.Seen.{MayBeMade, SessionSeen, body_in, chain_in, cleared_file, empty_shown, fill, grant_in, grown, made_file, open_kind, put, room_in, spare_number, spare_pages}
use Rattle.trio_deeds.proofs.Links.{filled_chain, filled_kind, filled_made, filled_spare, grown_kind, grown_roomed, some_of, spare_is_allotted}
use Rattle.trio_deeds.proofs.NewFiles.{may_be_made}
use Rattle.trio_deeds.proofs.makes.make_link.Goals as goal

pub fill-requires-clause-number : goal.fill-requires-clause-number
fill-requires-clause-number c = subst (λ n. 0 < n) (ap (λ o. unwrap_or o 0) (sym c.spare_ino.ensures ∙ c.in-Some.is)) c.requires.may.number

pub fill-requires-clause-made : goal.fill-requires-clause-made
fill-requires-clause-made c allotted =
    let s = c.args.session.now in
    let n : new_number s ≡ c.in-Some.ino = ap (λ o. unwrap_or o 0) (sym c.spare_ino.ensures ∙ c.in-Some.is) in
    subst (λ k. MayBeMade s k Link c.new_body.result) n (may_be_made s c.args.name.now c.args.dir c.requires.may Link c.new_body.result c.new_body.ensures.size)

pub grow-requires-clause-open : goal.grow-requires-clause-open
grow-requires-clause-open c =
    let s = c.args.session.now in
    let n = c.in-Some.ino in
    let number : spare_number s ≡ Some n = sym c.spare_ino.ensures ∙ c.in-Some.is in
    let same : new_number s ≡ n = ap (λ o. unwrap_or o 0) number in
    let allotted = spare_is_allotted s n number in
    let unlent : grant_in s n ≡ None = ap (grant_in s) (sym same) ∙ c.requires.may.nothing in
    let uncleared : cleared_file s n ≡ None = ap (cleared_file s) (sym same) ∙ c.requires.may.uncleared in
    let place = some_of (empty_shown s c.args.dir) c.requires.may.empty in
    inl (ap (option_map is_directory) (ap (λ (x : SessionSeen). open_kind x n) c.fill.ensures.kept ∙ filled_kind s c.args.dir n c.args.name.now Link c.new_body.result place.0 place.1 allotted unlent uncleared))

pub grow-requires-clause-size : goal.grow-requires-clause-size
grow-requires-clause-size c =
    let s = c.args.session.now in
    let n = c.in-Some.ino in
    let number : spare_number s ≡ Some n = sym c.spare_ino.ensures ∙ c.in-Some.is in
    let same : new_number s ≡ n = ap (λ o. unwrap_or o 0) number in
    let allotted = spare_is_allotted s n number in
    let unlent : grant_in s n ≡ None = ap (grant_in s) (sym same) ∙ c.requires.may.nothing in
    let uncleared : cleared_file s n ≡ None = ap (cleared_file s) (sym same) ∙ c.requires.may.uncleared in
    let place = some_of (empty_shown s c.args.dir) c.requires.may.empty in
    let none : size_in (body_in c.fill.new.self n) ≡ 0 = ap size_in (c.fill.ensures.body allotted) ∙ c.new_body.ensures.size in
    omega (arith, none)

pub grow-requires-clause-pages : goal.grow-requires-clause-pages
grow-requires-clause-pages c =
    let s = c.args.session.now in
    let n = c.in-Some.ino in
    let number : spare_number s ≡ Some n = sym c.spare_ino.ensures ∙ c.in-Some.is in
    let same : new_number s ≡ n = ap (λ o. unwrap_or o 0) number in
    let allotted = spare_is_allotted s n number in
    let unlent : grant_in s n ≡ None = ap (grant_in s) (sym same) ∙ c.requires.may.nothing in
    let uncleared : cleared_file s n ≡ None = ap (cleared_file s) (sym same) ∙ c.requires.may.uncleared in
    let place = some_of (empty_shown s c.args.dir) c.requires.may.empty in
    let s1 = c.fill.new.self in
    let chain : chain_in s1 n ≡ record { index = []; blocks = [] } =
    ap (λ (x : SessionSeen). chain_in x n) c.fill.ensures.kept ∙ filled_chain s c.args.dir n c.args.name.now Link c.new_body.result place.0 place.1 allotted unlent uncleared in
    let none : length (chain_in s1 n).blocks ≡ 0 = ap (λ (x : Chain). length x.blocks) chain in
    let spare : length (spare_pages s1) ≡ length (spare_pages s) =
    ap (λ (x : SessionSeen). length (spare_pages x)) c.fill.ensures.kept ∙ ap (λ (l : List ℕ). length l) (filled_spare s c.args.dir n c.args.name.now Link c.new_body.result place.0 place.1 allotted unlent uncleared) in
    let some = c.requires.some in
    let few = c.requires.few in
    let enough = c.requires.pages in
    omega (arith, none, spare, some, few, enough)

pub grow-requires-clause-room : goal.grow-requires-clause-room
grow-requires-clause-room c =
    let s = c.args.session.now in
    let n = c.in-Some.ino in
    let number : spare_number s ≡ Some n = sym c.spare_ino.ensures ∙ c.in-Some.is in
    let same : new_number s ≡ n = ap (λ o. unwrap_or o 0) number in
    let allotted = spare_is_allotted s n number in
    let unlent : grant_in s n ≡ None = ap (grant_in s) (sym same) ∙ c.requires.may.nothing in
    let uncleared : cleared_file s n ≡ None = ap (cleared_file s) (sym same) ∙ c.requires.may.uncleared in
    let place = some_of (empty_shown s c.args.dir) c.requires.may.empty in
    let room : room_in c.fill.new.self n ≡ s.room.next_blocks = c.fill.ensures.next allotted uncleared in
    let some = c.requires.some in
    let few = c.requires.few in
    let enough = c.requires.room in
    omega (arith, room, some, few, enough)

pub put-requires-clause-open : goal.put-requires-clause-open
put-requires-clause-open c =
    let s = c.args.session.now in
    let n = c.in-Some.ino in
    let number : spare_number s ≡ Some n = sym c.spare_ino.ensures ∙ c.in-Some.is in
    let same : new_number s ≡ n = ap (λ o. unwrap_or o 0) number in
    let allotted = spare_is_allotted s n number in
    let unlent : grant_in s n ≡ None = ap (grant_in s) (sym same) ∙ c.requires.may.nothing in
    let uncleared : cleared_file s n ≡ None = ap (cleared_file s) (sym same) ∙ c.requires.may.uncleared in
    let place = some_of (empty_shown s c.args.dir) c.requires.may.empty in
    let made = filled_made s c.args.dir n c.args.name.now Link c.new_body.result place.0 place.1 allotted unlent uncleared in
    let found : made_file c.fill.new.self n ≡ Some made.0 = ap (λ (x : SessionSeen). made_file x n) c.fill.ensures.kept ∙ made.1 in
    ap (option_map is_directory) (ap (λ (x : SessionSeen). open_kind x n) c.grow.ensures.kept ∙ grown_kind c.fill.new.self n _ made.0 found ∙ ap Some made.2)

pub put-requires-clause-within : goal.put-requires-clause-within
put-requires-clause-within c = omega (arith, c.grow.ensures.sized)

pub returns : goal.returns
unfolding put
returns c =
    let s = c.args.session.now in
    let n = c.in-Some.ino in
    let text = c.args.text.now in
    let s1 = c.fill.new.self in
    let s2 = c.grow.new.self in
    let s3 = c.put.new.self in
    let number : n ≡ new_number s = sym (ap (λ o. unwrap_or o 0) (sym c.spare_ino.ensures ∙ c.in-Some.is)) in
    let made : SessionSeen = fill c.args.dir c.args.name.now n Link c.new_body.result s in
    let grew : s2 ≡ record (grown n (length text) made) { room = s2.room } =
    c.grow.ensures.kept
    ∙ ap (λ (x : SessionSeen). record (grown n (length text) x) { room = s2.room }) c.fill.ensures.kept ∙ grown_roomed made n (length text) s1.room s2.room in
    let room : s3.room ≡ s2.room = ap (λ (x : SessionSeen). x.room) c.put.ensures in
    let kept : s3 ≡ record (put n 0 text (grown n (length text) made)) { room = s3.room } =
    c.put.ensures ∙ ap (put n 0 text) grew ∙ ap (λ r. record (put n 0 text (grown n (length text) made)) { room = r }) (sym room) in
    record {
      kept =
          subst (λ k. s3 ≡ record (link_made c.args.dir c.args.name.now k (new_body c.args.creds link_mode) text s) { room = s3.room }) number
          (subst (λ b. s3 ≡ record (link_made c.args.dir c.args.name.now n b text s) { room = s3.room }) c.new_body.ensures.body kept);
      calls = ap (λ (x : SessionSeen). x.room.calls) c.put.ensures ∙ c.grow.ensures.room.calls ∙ c.fill.ensures.room.calls;
      number = number;
      body = λ range. ap (body_of Regular range) (sym c.new_body.ensures.body) ∙ c.new_body.ensures.read Regular range refl;
    }
