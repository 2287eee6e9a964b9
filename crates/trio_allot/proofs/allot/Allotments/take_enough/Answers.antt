use Rattle.trio_allot.proofs.Words.{◌<◌, ◌∙◌, All, FreshParts, LibNo, List, None, Option, Some, ap, free_numbers, inode_numbers, length, length-with_all, page_numbers, subst, sym, take, with_all, with_pages, ℕ}
use Rattle.trio_allot.specs.Out.{OutByNumber}
use Rattle.trio_allot.proofs.Taking.{taken_in, numbers_given, undone}
use Rattle.trio_allot.proofs.allot.Allotments.take_enough.Goals as goal

pub put_back-requires-clause-numbers : goal.put_back-requires-clause-numbers
put_back-requires-clause-numbers c =
    let outs : OutByNumber = c.args.self.now in
    let ns = take c.args.inodes (free_numbers c.args.rows.now outs.numbers) in
    let these = ap inode_numbers c.in_ok-numbers.ensures.given ∙ numbers_given c.args.lib ns in
    let size = ap (λ (t : OutByNumber). length t.numbers) (c.in-Err.ensures.kept.0 ∙ c.in_ok-numbers.ensures.out) ∙ length-with_all (Some c.args.lib) ns outs.numbers in
    let free = taken_in c.args.rows.now outs.numbers c.args.inodes c.requires.inode_count in
    subst (λ (ms : List ℕ). All (λ m. m < length c.take_pages.new.self.numbers) ms) (sym these)
    (subst (λ (k : ℕ). All (λ m. m < k) ns) (sym size) (λ k d lt. (free k d lt).0))

pub returns-in-Err-clause-kept : goal.returns-in-Err-clause-kept
returns-in-Err-clause-kept c =
    let outs : OutByNumber = c.args.self.now in
    let ns = take c.args.inodes (free_numbers c.args.rows.now outs.numbers) in
    let these = ap inode_numbers c.in_ok-numbers.ensures.given ∙ numbers_given c.args.lib ns in
    let kept = c.in-Err.ensures.kept in
    let taken = kept.0 ∙ c.in_ok-numbers.ensures.out in
    let back = undone outs.numbers c.args.lib ns (taken_in c.args.rows.now outs.numbers c.args.inodes c.requires.inode_count) in (
      c.put_back.ensures.ended
          ∙ ap (λ (fs : List FreshParts). record { pages = with_all None (page_numbers fs) c.take_pages.new.self.pages; numbers = with_all None (inode_numbers c.in_ok-numbers.numbers.items) c.take_pages.new.self.numbers }) c.new.ensures.items
          ∙ ap (λ (t : OutByNumber). record { pages = t.pages; numbers = with_all None (inode_numbers c.in_ok-numbers.numbers.items) t.numbers }) taken
          ∙ ap (λ ms. record { pages = outs.pages; numbers = with_all None ms (with_all (Some c.args.lib) ns outs.numbers) }) these
          ∙ ap (λ (os : List (Option LibNo)). record { pages = outs.pages; numbers = os }) back,
      c.put_back.ensures.home
          ∙ ap (λ (fs : List FreshParts). record { pages = with_pages fs c.take_pages.new.home.pages; looked = c.take_pages.new.home.looked }) c.new.ensures.items
          ∙ kept.1,
      kept.2,
    )
