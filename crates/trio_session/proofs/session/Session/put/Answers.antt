use Rattle.trio_session.proofs.Words.{◌*◌, ◌+◌, ◌/◌, ◌<◌, ◌∙◌, ◌≡◌, ◌≤◌, Chain, FilePlace, Kind, Laid, List, OneFile, Parcel, Regular, SessionSeen, Some, ap, arith, blocks_under, body_at, chain_at, chain_in, is_some, length, option_map, put_bytes, refl, size_in, subst, sym, open_kind}
use Rattle.trio_session.specs.Seen.{put}
use Rattle.trio_session.specs.contracts.session.Session.{the_view}
use Rattle.trio_session.proofs.Chains.{there_some}
use Rattle.trio_session.proofs.Edited.{Keeps, blocks_keep}
use Rattle.trio_session.proofs.Insides.{files_in}
use Rattle.trio_session.proofs.Kept.{kept_put}
use Rattle.trio_session.proofs.Opens.{finds_in, finds_some, found_at, has_file, pages_left, plain_kind, plain_some, shows_view, view_left}
use Rattle.trio_session.proofs.Sessions.{laid_left, within_chain}
use Rattle.trio_session.proofs.session.Session.put.Goals as goal

pub unwrap-file-requires : goal.unwrap-file-requires
unwrap-file-requires c =
    let s = c.self.inside in
    let v = c.args.self.now in
    let ino = c.args.ino in
    let finds = finds_in s ino (option_map (λ o. (o.0, o.1.now)) c.file_among.result) c.deref.result.now c.deref-2.result.now c.deref.ensures.value c.deref-2.ensures.value c.file_among.ensures in
    finds_some v (files_in s) ino c.file_among.result (shows_view v s c.self.view_is) finds (plain_some (open_kind v ino) c.requires.open)

pub size_of-size-requires-clause-there : goal.size_of-size-requires-clause-there
size_of-size-requires-clause-there c =
    let s = c.self.inside in
    let v = c.args.self.now in
    let ino = c.args.ino in
    let finds = finds_in s ino (option_map (λ o. (o.0, o.1.now)) c.file_among.result) c.deref.result.now c.deref-2.result.now c.deref.ensures.value c.deref-2.ensures.value c.file_among.ensures in
    let file = c.unwrap-file.result.0 in
    let l = c.unwrap-file.result.1.now in
    let here = has_file v s ino file l c.self.view_is c.self.invariant (found_at s.stock s.laid.items s.made.items ino c.file_among.result c.unwrap-file.result finds c.unwrap-file.ensures) in
    there_some s.stock file l here.is

pub size_of-size-requires-clause-slot : goal.size_of-size-requires-clause-slot
size_of-size-requires-clause-slot c =
    let s = c.self.inside in
    let v = c.args.self.now in
    let ino = c.args.ino in
    let finds = finds_in s ino (option_map (λ o. (o.0, o.1.now)) c.file_among.result) c.deref.result.now c.deref-2.result.now c.deref.ensures.value c.deref-2.ensures.value c.file_among.ensures in
    let file = c.unwrap-file.result.0 in
    let l = c.unwrap-file.result.1.now in
    let here = has_file v s ino file l c.self.view_is c.self.invariant (found_at s.stock s.laid.items s.made.items ino c.file_among.result c.unwrap-file.result finds c.unwrap-file.ensures) in
    here.is.slot

pub put_bytes-requires-clause-file : goal.put_bytes-requires-clause-file
put_bytes-requires-clause-file c =
    let s = c.self.inside in
    let v = c.args.self.now in
    let ino = c.args.ino in
    let finds = finds_in s ino (option_map (λ o. (o.0, o.1.now)) c.file_among.result) c.deref.result.now c.deref-2.result.now c.deref.ensures.value c.deref-2.ensures.value c.file_among.ensures in
    let file = c.unwrap-file.result.0 in
    let l = c.unwrap-file.result.1.now in
    let here = has_file v s ino file l c.self.view_is c.self.invariant (found_at s.stock s.laid.items s.made.items ino c.file_among.result c.unwrap-file.result finds c.unwrap-file.ensures) in
    here.is

pub put_bytes-requires-clause-within : goal.put_bytes-requires-clause-within
put_bytes-requires-clause-within c =
    let s = c.self.inside in
    let v = c.args.self.now in
    let ino = c.args.ino in
    let finds = finds_in s ino (option_map (λ o. (o.0, o.1.now)) c.file_among.result) c.deref.result.now c.deref-2.result.now c.deref.ensures.value c.deref-2.ensures.value c.file_among.ensures in
    let file = c.unwrap-file.result.0 in
    let l = c.unwrap-file.result.1.now in
    let here = has_file v s ino file l c.self.view_is c.self.invariant (found_at s.stock s.laid.items s.made.items ino c.file_among.result c.unwrap-file.result finds c.unwrap-file.ensures) in
    let within : c.args.at + length c.args.bytes.now ≤ size_in (body_at s.stock file) = subst (λ w. c.args.at + length c.args.bytes.now ≤ size_in w) (sym here.body) c.requires.within in
    within_chain s.stock file l (c.args.at + length c.args.bytes.now) here.has within

pub put_bytes-requires-clause-fits : goal.put_bytes-requires-clause-fits
put_bytes-requires-clause-fits c =
    let s = c.self.inside in
    let v = c.args.self.now in
    let ino = c.args.ino in
    let finds = finds_in s ino (option_map (λ o. (o.0, o.1.now)) c.file_among.result) c.deref.result.now c.deref-2.result.now c.deref.ensures.value c.deref-2.ensures.value c.file_among.ensures in
    let file = c.unwrap-file.result.0 in
    let l = c.unwrap-file.result.1.now in
    let here = has_file v s ino file l c.self.view_is c.self.invariant (found_at s.stock s.laid.items s.made.items ino c.file_among.result c.unwrap-file.result finds c.unwrap-file.ensures) in
    let within : c.args.at + length c.args.bytes.now ≤ size_in (body_at s.stock file) = subst (λ w. c.args.at + length c.args.bytes.now ≤ size_in w) (sym here.body) c.requires.within in
    omega (arith, within, c.size_of-size.ensures, c.size_of-size.type_inv)

pub invariant_of-self : goal.invariant_of-self
invariant_of-self c =
    let s = c.self.inside in
    let v = c.args.self.now in
    let ino = c.args.ino in
    let finds = finds_in s ino (option_map (λ o. (o.0, o.1.now)) c.file_among.result) c.deref.result.now c.deref-2.result.now c.deref.ensures.value c.deref-2.ensures.value c.file_among.ensures in
    let file = c.unwrap-file.result.0 in
    let l = c.unwrap-file.result.1.now in
    let here = has_file v s ino file l c.self.view_is c.self.invariant (found_at s.stock s.laid.items s.made.items ino c.file_among.result c.unwrap-file.result finds c.unwrap-file.ensures) in
    let at = c.args.at in
    let new = c.args.bytes.now in
    let b' = c.put_bytes.new.stock in
    let blocks = (chain_at s.stock file l).blocks in
    let keeps : Keeps s.stock b' = subst (Keeps s.stock) (sym c.put_bytes.ensures) (blocks_keep blocks (at / 4096) (blocks_under at (length new)) at new s.stock) in
    let within : at + length new ≤ size_in (body_at s.stock file) = subst (λ w. at + length new ≤ size_in w) (sym here.body) c.requires.within in
    let x = here.found.one in
    let same : chain_at s.stock x.file x.laid ≡ chain_at s.stock file l = ap (λ f. chain_at s.stock f x.laid) here.found.place ∙ ap (chain_at s.stock file) here.found.laid in
    let regular = plain_kind (open_kind v ino) x.kind c.requires.open here.found.kind in
    let kept = kept_put s.placed s.reads.items s.stock b' s.laid.items s.made.items s.cleared.items s.dirs.items x at new c.self.invariant.0 c.self.invariant.3 c.self.invariant.4 here.found.is regular
    (subst (λ (ch : Chain). at + length new ≤ 4096 * length ch.blocks) (sym same) (within_chain s.stock file l (at + length new) here.has within))
    (c.put_bytes.ensures ∙ ap (λ (ch : Chain). put_bytes ch.blocks at new s.stock) (sym same)) in
    (laid_left s.stock b' s.laid.items keeps.leaves keeps.body c.self.invariant.0, rw (pages_left s.stock b' keeps.leaves) c.self.invariant.1, c.self.invariant.2, kept.0, kept.1, c.self.invariant.5, c.self.invariant.6)

pub returns : goal.returns
unfolding put
returns c =
    let s = c.self.inside in
    let v = c.args.self.now in
    let ino = c.args.ino in
    let finds = finds_in s ino (option_map (λ o. (o.0, o.1.now)) c.file_among.result) c.deref.result.now c.deref-2.result.now c.deref.ensures.value c.deref-2.ensures.value c.file_among.ensures in
    let file = c.unwrap-file.result.0 in
    let l = c.unwrap-file.result.1.now in
    let here = has_file v s ino file l c.self.view_is c.self.invariant (found_at s.stock s.laid.items s.made.items ino c.file_among.result c.unwrap-file.result finds c.unwrap-file.ensures) in
    let at = c.args.at in
    let new = c.args.bytes.now in
    let b' = c.put_bytes.new.stock in
    let blocks = (chain_at s.stock file l).blocks in
    let keeps : Keeps s.stock b' = subst (Keeps s.stock) (sym c.put_bytes.ensures) (blocks_keep blocks (at / 4096) (blocks_under at (length new)) at new s.stock) in
    view_left s b' keeps.leaves
    ∙ ap (λ (b : Parcel). record (the_view s) { parcel = b }) (c.put_bytes.ensures ∙ ap (λ (ch : Chain). put_bytes ch.blocks at new s.stock) (here.chain ∙ ap (λ (x : SessionSeen). chain_in x ino) (sym c.self.view_is)))
    ∙ ap (λ (x : SessionSeen). put ino at new x) c.self.view_is
