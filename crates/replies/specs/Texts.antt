-- The bytes of every printed line: answers, refusals and errors.
use Rattle.std.specs.Prelude.{ℕ, List, ◌++◌, Ok, Err, codes, decimal}
use Rattle.rows.specs.declared.fault.Fault.{Fault}
use Rattle.rows.specs.Faults.{number_of, Said}
use Rattle.words.specs.declared.errors.LineError.{LineError}
use Rattle.words.specs.Reasons.{reason_text}
use Rattle.replies.specs.declared.reply.TableRead.{TableRead}
use Rattle.replies.specs.declared.reply.WitnessRead.{WitnessRead}
use Rattle.replies.specs.declared.reply.Reply.{Reply}
use Rattle.replies.specs.declared.reply.Reply.TheVariants.{Yes, Done, Table, Witness, Refused}

-- the answer to the line of that number, which is no command
abbrev pub error_text : ℕ → LineError → List ℕ
error_text line e = codes "error line " ++ (decimal line ++ (codes ": " ++ reason_text e))

-- the answer to a table that was read
abbrev pub table_text : TableRead → List ℕ
table_text t =
    codes "ok: values " ++ (decimal t.values
    ++ (codes " choices " ++ (decimal t.choices
    ++ (codes " start " ++ (decimal t.start
    ++ (codes " initial " ++ (decimal t.initial
    ++ (codes " transitions " ++ decimal t.transitions))))))))

-- the answer to a witness that was read
abbrev pub witness_text : WitnessRead → List ℕ
witness_text w = codes "ok: places " ++ (decimal w.places ++ (codes " inner " ++ decimal w.inners))

-- a refusal: the number of the fault's kind, its place, depth and item, in decimal
abbrev pub refusal_text : Fault → List ℕ
refusal_text f =
    codes "refused " ++ (decimal (number_of f.kind)
    ++ (codes " at " ++ (decimal f.place
    ++ (codes " layer " ++ (decimal f.depth
    ++ (codes " item " ++ decimal f.item))))))

-- what is answered to a command
abbrev pub reply_text : Reply → List ℕ
reply_text Yes = codes "yes"
reply_text Done = codes "ok"
reply_text (Table t) = table_text t
reply_text (Witness w) = witness_text w
reply_text (Refused f) = refusal_text f

-- a reply, or in its place the refusal
abbrev pub unless_refused : Reply → Said → Reply
unless_refused reply (Ok u) = reply
unless_refused reply (Err f) = Refused f
