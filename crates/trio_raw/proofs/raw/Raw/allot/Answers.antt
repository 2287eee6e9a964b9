use Rattle.trio_raw.proofs.Words.{◌∙◌, Given, Held, Made, ap, arith, ino_numbers, page_numbers, with_allotted, with_given}
use Rattle.trio_desk.specs.Call.{NotGiven}
use Rattle.trio_raw.proofs.Asking.{allot_after, allot_leases, allot_stands, few_numbers, few_pages}
use Rattle.trio_raw.proofs.Leases.{leases_alike}
use Rattle.trio_raw.proofs.Standing.{stands_alike}
use Rattle.trio_raw.proofs.raw.Raw.allot.Goals as goal

pub add_allotted-requires : goal.add_allotted-requires
add_allotted-requires g c =
    let seen = g.D.Desk.seen c.args.desk.now in
    let given = c.in-Ok.given in
    let limits = c.creds-creds.ensures.limits in
    let got = c.in-Ok.ensures in
    let pages = few_pages seen.lib seen.sizes seen.out given c.args.pages c.args.inodes limits got.fresh got.wanted in
    let numbers = few_numbers seen.lib seen.sizes seen.out given c.args.pages c.args.inodes limits got.fresh got.wanted in
    let made = c.in_ok-numbers.ensures in
    let few = pages.0 in
    let few' = pages.1 in
    let less = numbers.0 in
    let less' = numbers.1 in
    let most = c.min-most_pages.ensures in
    let most' = c.min-most_inodes.ensures in
    record {
      places = record { more_pages = omega (arith, few, few', most, made.places.more_pages); more_inodes = omega (arith, less, less', most', made.places.more_inodes) };
      numbers = record {
        no_pages = made.numbers.no_pages;
        no_inodes = made.numbers.no_inodes;
        for_pages = omega (arith, few, few', most, made.numbers.for_pages);
        for_inodes = omega (arith, less, less', most', made.numbers.for_inodes);
      };
    }

pub returns-in-Ok-clause-call : goal.returns-in-Ok-clause-call
returns-in-Ok-clause-call g c =
    let seen = g.D.Desk.seen c.args.desk.now in
    let given = c.in-Ok.given in
    let e = c.add_allotted.ensures in
    let same = c.reserve_allotted.ensures.kept ∙ ap (λ (h : Held). h.has) c.self.view_is in
    Made (Given (page_numbers given.pages.items) (ino_numbers given.inodes.items)) c.in-Ok.ensures.called
    (allot_after seen.lib seen.sizes seen.out c.args.self.now.has c.add_allotted.new.self.has given c.add_allotted.result c.in-Ok.ensures.fresh e.answer
    (e.added ∙ ap (λ h. with_given h given) same))

pub returns-in-Ok-clause-stands : goal.returns-in-Ok-clause-stands
returns-in-Ok-clause-stands g c =
    let seen = g.D.Desk.seen c.args.desk.now in
    let out' = (g.D.Desk.seen c.allot.new.self).out in
    let given = c.in-Ok.given in
    let same = c.reserve_allotted.ensures.kept ∙ ap (λ (h : Held). h.has) c.self.view_is in
    stands_alike out' (with_allotted seen.out (page_numbers given.pages.items) (ino_numbers given.inodes.items)) c.add_allotted.new.self.has c.in-Ok.ensures.seen.out
    (allot_stands seen.lib seen.sizes seen.out c.args.self.now.has c.add_allotted.new.self.has given c.in-Ok.ensures.fresh
    (c.add_allotted.ensures.added ∙ ap (λ h. with_given h given) same) c.requires.stands)

pub returns-in-Ok-clause-leases : goal.returns-in-Ok-clause-leases
returns-in-Ok-clause-leases g c l =
    let out = (g.D.Desk.seen c.args.desk.now).out in
    let out' = (g.D.Desk.seen c.allot.new.self).out in
    let given = c.in-Ok.given in
    let same = c.reserve_allotted.ensures.kept ∙ ap (λ (h : Held). h.has) c.self.view_is in
    leases_alike out' (with_allotted out (page_numbers given.pages.items) (ino_numbers given.inodes.items)) c.add_allotted.new.self.has c.in-Ok.ensures.seen.out
    (allot_leases out c.args.self.now.has c.add_allotted.new.self.has given (c.add_allotted.ensures.added ∙ ap (λ h. with_given h given) same) l)

pub returns-in-Err-clause-call : goal.returns-in-Err-clause-call
returns-in-Err-clause-call g c =
    Made (NotGiven c.in-Err.fault) c.in-Err.ensures.called (c.refusal.ensures, c.reserve_allotted.ensures.kept ∙ ap (λ (h : Held). h.has) c.self.view_is)

pub returns-in-Err-clause-stands : goal.returns-in-Err-clause-stands
returns-in-Err-clause-stands g c =
    let same = c.reserve_allotted.ensures.kept ∙ ap (λ (h : Held). h.has) c.self.view_is in
    stands_alike (g.D.Desk.seen c.allot.new.self).out (g.D.Desk.seen c.args.desk.now).out c.reserve_allotted.new.self.has c.in-Err.ensures.seen.out (rw same c.requires.stands)

pub returns-in-Err-clause-leases : goal.returns-in-Err-clause-leases
returns-in-Err-clause-leases g c l =
    let same = c.reserve_allotted.ensures.kept ∙ ap (λ (h : Held). h.has) c.self.view_is in
    leases_alike (g.D.Desk.seen c.allot.new.self).out (g.D.Desk.seen c.args.desk.now).out c.reserve_allotted.new.self.has c.in-Err.ensures.seen.out (rw same l)
