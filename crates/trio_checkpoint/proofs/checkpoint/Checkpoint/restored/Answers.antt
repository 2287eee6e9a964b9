use Rattle.trio_checkpoint.proofs.Words.{length, refl}
use Rattle.trio_checkpoint.proofs.Restoring.{below_parts, length-with_pages, with_pages-append}
use Rattle.trio_checkpoint.proofs.checkpoint.Checkpoint.restored.Goals as goal

pub put_all_back-requires-2 : goal.put_all_back-requires-2
put_all_back-requires-2 c =
    let inside = c.self.inside in
    let all = rw (← c.self.view_is) at c.requires in
    rw (c.put_all_back.ensures, length-with_pages)
    (below_parts (length c.args.home.now.pages) inside.index.items inside.blocks.items all).1

pub returns-clause-home : goal.returns-clause-home
returns-clause-home c =
    rw (← c.self.view_is, with_pages-append, c.put_all_back-2.ensures, c.put_all_back.ensures) refl
