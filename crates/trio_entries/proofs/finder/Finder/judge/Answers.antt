use Rattle.trio_entries.proofs.Words.{◌∙◌, ListedFile, ap, map, own_numbers, place_of, refl}
use Rattle.trio_entries.proofs.Finding.{noted_all}
use Rattle.trio_entries.proofs.finder.Finder.judge.Goals as goal

pub returns-clause-judged : goal.returns-clause-judged
returns-clause-judged c = λ n.
    let own = own_numbers c.args.case.now in
    noted_all own (map (λ (f : ListedFile). f.ino) c.args.listing.now.listing.files) c.place_judged.new.judged.items n (place_of n own) refl
    (λ i. c.place_judged.ensures n i ∙ ap (place_of n) c.files.ensures.numbers) (c.requires.own n)
