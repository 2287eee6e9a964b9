use Rattle.trio_session.proofs.Words.{◌++◌, ◌∙◌, FreshParts, Gave, InoParts, List, Parcel, Refused, ap, bundled, parcel_of, refl}
use Rattle.trio_session.proofs.giving.allot_into.Goals as goal

pub returns-in-Ok : goal.returns-in-Ok
returns-in-Ok g c =
    let p : Parcel = parcel_of (bundled c.args.parts.now) in
    let given = c.in-Ok.given in
    let view : List FreshParts → List InoParts → Parcel = λ ps ns. record p { pages = ps; inodes = ns } in
    let pages = c.append_all.ensures.items ∙ ap (λ ps. ps ++ given.pages.items) c.reserve.ensures.items in
    let inodes = c.append_all-in-Ok.ensures.items ∙ ap (λ ns. ns ++ given.inodes.items) c.reserve-else-is_err.ensures.items in
    Gave given c.in-Ok.ensures.called c.in-Ok.ensures.seen c.in-Ok.ensures.fresh c.in-Ok.ensures.wanted
    (ap (λ ps. view ps c.append_all-in-Ok.new.things.items) pages ∙ ap (view (p.pages ++ given.pages.items)) inodes) refl

pub returns-in-Err : goal.returns-in-Err
returns-in-Err g c =
    let p : Parcel = parcel_of (bundled c.args.parts.now) in
    let view : List FreshParts → List InoParts → Parcel = λ ps ns. record p { pages = ps; inodes = ns } in
    Refused c.in-Err.fault c.in-Err.ensures.called c.in-Err.ensures.seen c.in-Err.ensures.lack
    (ap (λ ps. view ps c.reserve-else-is_err.new.self.items) c.reserve.ensures.items ∙ ap (view p.pages) c.reserve-else-is_err.ensures.items) refl
