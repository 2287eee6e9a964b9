-- What calls of the tree are replied, as text.
use Rattle.std.specs.Prelude.{ℕ, List, [], ◌∷◌, ◌++◌, length, codes}
use Rattle.std.specs.List.{flat_map}
use Rattle.std.specs.Fmt.{decimal}
use Rattle.trio_names.specs.Escaped.{escaped_of}
use Rattle.trio_rights.specs.Kind.{letter}
use Rattle.trio_rights.specs.declared.kind.Kind.{Kind}
use Rattle.trio_rights.specs.declared.kind.Kind.TheVariants.{Regular, Directory, Link}
use Rattle.trio_nodes.specs.declared.call.Answer.{Answer}
use Rattle.trio_nodes.specs.declared.call.Answer.TheVariants.{Done, Count, Bytes, Names, Stat}
use Rattle.trio_nodes.specs.declared.call.Reply.{Reply}
use Rattle.trio_nodes.specs.declared.call.Reply.TheVariants.{Ok as Replied, NotFound, Exists, NotDir, IsDir, NotEmpty, Denied, IntoItself, NoSpace, NoInodes, TooLarge, IsLink, NotLink}
use Rattle.trio_report.specs.Octal.{octal_of}

-- bytes that were read: a space and the bytes escaped, where there are some
abbrev pub bytes_text : List ℕ → List ℕ
bytes_text [] = []
bytes_text (b ∷ bytes) = codes " " ++ escaped_of (b ∷ bytes)

-- the mark behind a directory's name, and that behind a link's
abbrev pub kind_mark : Kind → List ℕ
kind_mark Regular = []
kind_mark Directory = codes "/"
kind_mark Link = codes "@"

-- a name that is listed: a space and the name escaped, with the mark of its kind. A name may end in the mark of a link, so that the two
-- aren't told apart.
abbrev pub listed_text : List ℕ × Kind → List ℕ
listed_text l = codes " " ++ escaped_of l.0 ++ kind_mark l.1

-- the words for what a call answers that was done
abbrev pub done_text : Answer → List ℕ
done_text Done = codes "ok"
done_text (Count count) = codes "ok " ++ decimal count
done_text (Bytes bytes) = codes "ok " ++ decimal (length bytes) ++ bytes_text bytes
done_text (Names count names) = codes "ok " ++ decimal count ++ flat_map listed_text names
done_text (Stat kind mode uid gid size) =
    codes "ok " ++ letter kind ++ codes " " ++ octal_of mode.0 ++ codes " " ++ decimal uid ++ codes " " ++ decimal gid ++ codes " " ++ decimal size

-- the words for what a call is replied
abbrev pub reply_text : Reply → List ℕ
reply_text (Replied answer) = done_text answer
reply_text NotFound = codes "notfound"
reply_text Exists = codes "exists"
reply_text NotDir = codes "notdir"
reply_text IsDir = codes "isdir"
reply_text NotEmpty = codes "notempty"
reply_text Denied = codes "denied"
reply_text IntoItself = codes "intoitself"
reply_text (NoSpace wanted free) = codes "nospace " ++ decimal wanted ++ codes " " ++ decimal free
reply_text (NoInodes wanted free) = codes "noinodes " ++ decimal wanted ++ codes " " ++ decimal free
reply_text TooLarge = codes "toolarge"
reply_text IsLink = codes "islink"
reply_text NotLink = codes "notlink"
