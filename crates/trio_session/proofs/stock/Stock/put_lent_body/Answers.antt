use Rattle.trio_session.proofs.Words.{◌<◌, ◌∙◌, AreApart, LentFile, Parcel, ap, bundled, ino_at, length, parcel_of, subst, sym}
use Rattle.trio_session.proofs.Places.{body_put, body_set, body_others, apart_body}
use Rattle.trio_session.proofs.stock.Stock.put_lent_body.Goals as goal

pub invariant_of-self : goal.invariant_of-self
invariant_of-self c =
    let b = parcel_of (bundled c.self.inside.parts) in
    let lt : c.args.at < length b.writes = rw (ap (λ (s : Parcel). length s.writes) c.self.view_is) c.requires in
    let done = body_put b c.args.at c.args.body.now c.index_mut.result.now c.put_lent_body.new.lease c.self.invariant lt c.index_mut.ensures.value c.put_lent_body.ensures in
    subst AreApart (sym done) (apart_body (ino_at b c.args.at) c.args.body.now b c.self.invariant)

pub returns-clause-written : goal.returns-clause-written
returns-clause-written c =
    let b = parcel_of (bundled c.self.inside.parts) in
    let lt : c.args.at < length b.writes = rw (ap (λ (s : Parcel). length s.writes) c.self.view_is) c.requires in
    let done = body_put b c.args.at c.args.body.now c.index_mut.result.now c.put_lent_body.new.lease c.self.invariant lt c.index_mut.ensures.value c.put_lent_body.ensures in
    rw (← c.self.view_is) done

pub returns-clause-has : goal.returns-clause-has
returns-clause-has c =
    let b = parcel_of (bundled c.self.inside.parts) in
    let lt : c.args.at < length b.writes = rw (ap (λ (s : Parcel). length s.writes) c.self.view_is) c.requires in
    body_set b c.args.at c.put_lent_body.new.lease lt ∙ ap (λ (f : LentFile). f.stands.body) c.put_lent_body.ensures

pub returns-clause-others : goal.returns-clause-others
returns-clause-others c =
    let b = parcel_of (bundled c.self.inside.parts) in
    rw (← c.self.view_is) (λ i ne. body_others b c.args.at i c.put_lent_body.new.lease ne)
