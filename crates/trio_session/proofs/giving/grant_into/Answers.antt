use Rattle.trio_session.proofs.Words.{◌++◌, ◌∙◌, ◌∷◌, Denied, Granted, Hold, HoldParts, LentFile, List, Parcel, Read, Write, [], ap, bundled, parcel_of, refl}
use Rattle.trio_session.proofs.giving.grant_into.Goals as goal

pub returns-in-Ok-Write : goal.returns-in-Ok-Write
returns-in-Ok-Write g c =
    let p : Parcel = parcel_of (bundled c.args.parts.now) in
    let f = c.in-Ok-Write.lease in
    let view : List LentFile → List HoldParts → Parcel = λ fs hs. record p { writes = fs; holds = hs } in
    Granted (Write f) (rw c.in-Ok-Write.field-0-is at c.in-Ok-Write.ensures.called) (rw c.in-Ok-Write.field-0-is at c.in-Ok-Write.ensures.seen) (rw c.in-Ok-Write.field-0-is at c.in-Ok-Write.ensures.lease) (rw c.in-Ok-Write.field-0-is at c.in-Ok-Write.ensures.kind) (rw c.in-Ok-Write.field-0-is at c.in-Ok-Write.ensures.cause)
    (ap (λ fs. view fs c.reserve-else-is_err.new.self.items) (c.push_reserved-in-Ok-Write.ensures.items ∙ ap (λ fs. fs ++ f ∷ []) c.reserve.ensures.items)
    ∙ ap (view (p.writes ++ f ∷ [])) c.reserve-else-is_err.ensures.items)
    c.reserve-else-is_err-3.ensures.items (
      c.as_lent.result,
      record {
        index_kept = c.as_lent.ensures.index_kept;
        blocks_kept = c.as_lent.ensures.blocks_kept;
        index_more = c.as_lent.ensures.index_more;
        blocks_more = c.as_lent.ensures.blocks_more;
        index_narrow = c.as_lent.ensures.index_narrow;
        blocks_narrow = c.as_lent.ensures.blocks_narrow;
      },
      c.push_reserved.ensures.items ∙ ap (λ ls. ls ++ c.as_lent.result ∷ []) c.reserve-else-is_err-2.ensures.items,
    )
    refl

pub returns-in-Ok-Read : goal.returns-in-Ok-Read
returns-in-Ok-Read g c =
    let p : Parcel = parcel_of (bundled c.args.parts.now) in
    let r = c.in-Ok-Read.lease in
    let view : List LentFile → List HoldParts → Parcel = λ fs hs. record p { writes = fs; holds = hs } in
    Granted (Read r) (rw c.in-Ok-Read.field-0-is at c.in-Ok-Read.ensures.called) (rw c.in-Ok-Read.field-0-is at c.in-Ok-Read.ensures.seen) (rw c.in-Ok-Read.field-0-is at c.in-Ok-Read.ensures.lease) (rw c.in-Ok-Read.field-0-is at c.in-Ok-Read.ensures.kind) (rw c.in-Ok-Read.field-0-is at c.in-Ok-Read.ensures.cause)
    (ap (λ fs. view fs c.reserve-else-is_err.new.self.items) c.reserve.ensures.items ∙ ap (view p.writes) c.reserve-else-is_err.ensures.items)
    (c.push_reserved-in-Ok-Read.ensures.items ∙ ap (λ rs. rs ++ r ∷ []) c.reserve-else-is_err-3.ensures.items)
    c.reserve-else-is_err-2.ensures.items refl

pub returns-in-Ok-Hold : goal.returns-in-Ok-Hold
returns-in-Ok-Hold g c =
    let p : Parcel = parcel_of (bundled c.args.parts.now) in
    let h = c.in-Ok-Hold.lease in
    let view : List LentFile → List HoldParts → Parcel = λ fs hs. record p { writes = fs; holds = hs } in
    Granted (Hold h) (rw c.in-Ok-Hold.field-0-is at c.in-Ok-Hold.ensures.called) (rw c.in-Ok-Hold.field-0-is at c.in-Ok-Hold.ensures.seen) (rw c.in-Ok-Hold.field-0-is at c.in-Ok-Hold.ensures.lease) (rw c.in-Ok-Hold.field-0-is at c.in-Ok-Hold.ensures.kind) (rw c.in-Ok-Hold.field-0-is at c.in-Ok-Hold.ensures.cause)
    (ap (λ fs. view fs c.push_reserved-in-Ok-Hold.new.self.items) c.reserve.ensures.items ∙ ap (view p.writes) (c.push_reserved-in-Ok-Hold.ensures.items ∙ ap (λ hs. hs ++ h ∷ []) c.reserve-else-is_err.ensures.items))
    c.reserve-else-is_err-3.ensures.items c.reserve-else-is_err-2.ensures.items refl

pub returns-in-Err : goal.returns-in-Err
returns-in-Err g c =
    let p : Parcel = parcel_of (bundled c.args.parts.now) in
    let view : List LentFile → List HoldParts → Parcel = λ fs hs. record p { writes = fs; holds = hs } in
    Denied c.in-Err.fault c.in-Err.ensures.called c.in-Err.ensures.seen c.in-Err.ensures.holder c.in-Err.ensures.cause
    (ap (λ fs. view fs c.reserve-else-is_err.new.self.items) c.reserve.ensures.items ∙ ap (view p.writes) c.reserve-else-is_err.ensures.items)
    c.reserve-else-is_err-3.ensures.items c.reserve-else-is_err-2.ensures.items refl
