use Rattle.trio_entries.proofs.Words.{◌||◌, ◌∙◌, Handed, InoParts, LentFile, List, all_pages, ap, arith, has_mark, is_among, is_marked, length, length-append, length-map, map, sym, ℕ}
use Rattle.trio_entries.proofs.FlatPlaces.{all_count, marks_in}
use Rattle.trio_entries.proofs.finder.Finder.look.Goals as goal

pub set_unplaced-requires-clause-places : goal.set_unplaced-requires-clause-places
set_unplaced-requires-clause-places c =
    let b = c.args.case.now.bundle in
    omega (arith, length-append (map (λ (f : LentFile). f.stands.ino) b.writes) (map (λ (n : InoParts). n.no) b.inodes), length-map b.writes (λ (f : LentFile). f.stands.ino), length-map b.inodes (λ (n : InoParts). n.no), c.requires.places.judged)

pub add_marked-requires : goal.add_marked-requires
add_marked-requires c =
    let b = c.args.case.now.bundle in
    let all = ap length (c.pages.ensures ∙ ap all_pages c.requires.handed) in
    omega (arith, all, all_count b, c.requires.places.marked, ap length c.requires.places.unmarked)

pub returns-clause-found : goal.returns-clause-found
returns-clause-found c = record { pages = c.fill.ensures; few = c.requires.few }

pub returns-clause-marked : goal.returns-clause-marked
returns-clause-marked c =
    let b = c.args.case.now.bundle in
    let none = c.requires.places.unmarked in
    let pages = c.pages.ensures ∙ ap all_pages c.requires.handed in
    record {
      marked = λ n.
          c.sort_numbers.ensures.same n ∙ c.add_marked.ensures.marked n ∙ ap (λ (xs : List ℕ). is_among n xs || has_mark n c.pages.result.now) none
          ∙ ap (has_mark n) pages
          ∙ marks_in b n
          ∙ sym (ap (λ (h : Handed). is_marked h n) c.requires.handed);
      rising = c.sort_numbers.ensures.rising;
    }
