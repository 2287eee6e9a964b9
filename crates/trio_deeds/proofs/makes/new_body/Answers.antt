use Rattle.std.proofs.Common.{◌<◌, ◌^◌, ◌∙◌, ap, arith, false, refl}
use Rattle.trio_layout.specs.Body.{IsNarrowBody, body_of}
use Rattle.trio_layout.specs.declared.body.Body.{Body}
use Rattle.trio_layout.proofs.Bodies.{is_read}
use Rattle.trio_session.specs.Layout.{size_in}
use Rattle.trio_deeds.proofs.NewFiles.{new_body_read}
use Rattle.trio_deeds.proofs.makes.new_body.Goals as goal

pub returns : goal.returns
returns c =
    let b : Body = record { mode = c.args.mode; uid = c.args.creds.uid; gid = c.args.creds.gid; head = 0; size = 0; guard = false } in
    let uid : c.args.creds.uid < 2 ^ 32 = omega arith in
    let gid : c.args.creds.gid < 2 ^ 32 = omega arith in
    let narrow : IsNarrowBody b = record { uid = uid; gid = gid; head = omega arith; size = omega arith } in
    record {
      body = c.write.ensures;
      read = λ kind range plain. ap (body_of kind range) c.write.ensures ∙ new_body_read kind range b plain c.requires narrow refl refl refl;
      size = ap size_in c.write.ensures ∙ ap (λ (x : Body). x.size) (is_read b (omega (arith, c.requires)) narrow);
    }
