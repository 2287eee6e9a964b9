use Rattle.std.proofs.Common.{◌≡◌, ◌<◌, ◌∙◌, ap, subst, sym}
use Rattle.std.specs.Prelude.{unwrap_or}
use Rattle.trio_layout.specs.Body.{body_of}
use Rattle.trio_session.specs.Deeds.{new_body, new_number}
use Rattle.trio_session.specs.Seen.{MayBeMade, fill}
use Rattle.trio_deeds.proofs.NewFiles.{may_be_made}
use Rattle.trio_deeds.proofs.makes.make_file.Goals as goal

pub fill-requires-clause-number : goal.fill-requires-clause-number
fill-requires-clause-number c = subst (λ n. 0 < n) (ap (λ o. unwrap_or o 0) (sym c.spare_ino.ensures ∙ c.in-Some.is)) c.requires.may.number

pub fill-requires-clause-made : goal.fill-requires-clause-made
fill-requires-clause-made c allotted =
    let s = c.args.session.now in
    let n : new_number s ≡ c.in-Some.ino = ap (λ o. unwrap_or o 0) (sym c.spare_ino.ensures ∙ c.in-Some.is) in
    subst (λ k. MayBeMade s k c.args.kind c.new_body.result) n (may_be_made s c.args.name.now c.args.dir c.requires.may c.args.kind c.new_body.result c.new_body.ensures.size)

pub returns : goal.returns
returns c =
    let s = c.args.session.now in
    let s2 = c.fill.new.self in
    let n : c.in-Some.ino ≡ new_number s = sym (ap (λ o. unwrap_or o 0) (sym c.spare_ino.ensures ∙ c.in-Some.is)) in
    record {
      kept =
          subst (λ k. s2 ≡ record (fill c.args.dir c.args.name.now k c.args.kind (new_body c.args.creds c.args.mode) s) { room = s2.room }) n
          (subst (λ b. s2 ≡ record (fill c.args.dir c.args.name.now c.in-Some.ino c.args.kind b s) { room = s2.room }) c.new_body.ensures.body c.fill.ensures.kept);
      room = c.fill.ensures.room;
      number = n;
      body = λ range. ap (body_of c.args.kind range) (sym c.new_body.ensures.body) ∙ c.new_body.ensures.read c.args.kind range c.requires.kind;
    }
