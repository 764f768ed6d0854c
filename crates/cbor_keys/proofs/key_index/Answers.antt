-- The names of six bytes and more, too long for the check alone: the pattern tells the slice's bytes one by one.
use Rattle.std.proofs.Common.{rules, refl}
use native.Mathlib.Omega.{arith}
use Rattle.basis.specs.Basis.{ascii}
use Rattle.cbor_keys.specs.Keys.{keys_of}
use Rattle.cbor_keys.specs.Reading.{index_from}
use Rattle.cbor_keys.proofs.Named.{reads_all}
use Rattle.cbor_keys.proofs.key_index.Goals as goal

pub returns-in-Scope-eq109 : goal.returns-in-Scope-eq109
unfolding keys_of index_from
returns-in-Scope-eq109 c = rw (c.in-Scope-eq109.is-0, reads_all (ascii "max_bytes") c.args.c.now (omega arith) (search rules)) refl

pub returns-in-T-method : goal.returns-in-T-method
unfolding keys_of index_from
returns-in-T-method c = rw (c.in-T-method.is-0, reads_all (ascii "method") c.args.c.now (omega arith) (search rules)) refl

pub returns-in-T-tenant : goal.returns-in-T-tenant
unfolding keys_of index_from
returns-in-T-tenant c = rw (c.in-T-tenant.is-0, reads_all (ascii "tenant") c.args.c.now (omega arith) (search rules)) refl

pub returns-in-T-custom : goal.returns-in-T-custom
unfolding keys_of index_from
returns-in-T-custom c = rw (c.in-T-custom.is-0, reads_all (ascii "custom") c.args.c.now (omega arith) (search rules)) refl

pub returns-in-T-eq105 : goal.returns-in-T-eq105
unfolding keys_of index_from
returns-in-T-eq105 c = rw (c.in-T-eq105.is-0, reads_all (ascii "ip_cidr") c.args.c.now (omega arith) (search rules)) refl

pub returns-in-T-amnesia : goal.returns-in-T-amnesia
unfolding keys_of index_from
returns-in-T-amnesia c = rw (c.in-T-amnesia.is-0, reads_all (ascii "amnesia") c.args.c.now (omega arith) (search rules)) refl

pub returns-in-T-eq98 : goal.returns-in-T-eq98
unfolding keys_of index_from
returns-in-T-eq98 c = rw (c.in-T-eq98.is-0, reads_all (ascii "bytes_le") c.args.c.now (omega arith) (search rules)) refl

pub returns-in-T-eq112 : goal.returns-in-T-eq112
unfolding keys_of index_from
returns-in-T-eq112 c = rw (c.in-T-eq112.is-0, reads_all (ascii "path_prefix") c.args.c.now (omega arith) (search rules)) refl

pub returns-in-T-eq103 : goal.returns-in-T-eq103
unfolding keys_of index_from
returns-in-T-eq103 c = rw (c.in-T-eq103.is-0, reads_all (ascii "gov_policy_digest") c.args.c.now (omega arith) (search rules)) refl
