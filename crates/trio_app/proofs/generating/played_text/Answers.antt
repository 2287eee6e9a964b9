use Rattle.trio_app.proofs.Gens.{gen_done}
use Rattle.trio_app.proofs.generating.played_text.Goals as goal

pub returns : goal.returns
returns c =
    let first = c.in_ok-first.ensures in
    let first' = rw c.deref.ensures.value at first in
    let second = c.in_ok-second.ensures in
    let second' = rw c.deref-2.ensures.value at second in
    let text = c.in_ok-text.ensures in
    let text' = rw (c.deref-3.ensures.value, c.deref-4.ensures.value) at text in
    gen_done c.args.number c.args.files c.in_ok-image.image.superblock c.in_ok-first.first.image.superblock c.in_ok-second.second.image.superblock c.in_ok-image.image.pages c.in_ok-first.first.image.pages
    c.in_ok-second.second.image.pages c.in_ok-directories.directories.items c.in_ok-libs.libs.items c.in_ok-first.first.tolds.items c.in_ok-second.second.tolds.items c.in_ok-text.text.items
    c.in_ok-image.ensures c.in_ok-directories.ensures.script c.in_ok-libs.ensures.script first' second' text'
