-- What a value began from.
use Rattle.std.specs.Prelude.{List, []}
use Rattle.trio_rights.specs.declared.rights.Creds.{Creds}
use Rattle.trio_layout.specs.Image.{Image}

-- the image that it began from, and the credentials of the libraries, of library 1 first
pub record Origin : Type 0 where
  pub image : Image
  pub creds : List Creds

-- an image that has no page and no file
abbrev pub no_image : Image
no_image = record {
  core = record { pages = []; root = []; range = record { first = 0; end = 0 }; inodes = 0 };
  rows = [];
  owners = [];
}

-- that of a view that stands for no library any more
abbrev pub no_origin : Origin
no_origin = record { image = no_image; creds = [] }
