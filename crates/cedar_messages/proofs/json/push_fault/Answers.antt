-- Each part is appended behind those before.
use Rattle.std.proofs.Common.{◌≡◌, ◌++◌, Option, codes, string_bytes, ap, ◌∙◌, append_assoc}
use Rattle.cedar_language.specs.Uid.{Text}
use Rattle.cedar_messages.specs.Json.{expected_in, extent_json, help_in, kind_in, or_null, text_json}
use Rattle.cedar_messages.specs.Faults.{reach}
use Rattle.cedar_messages.proofs.json.push_fault.Goals as goal

both : (a b c x y : Text) → b ≡ a ++ x → c ≡ b ++ y → c ≡ a ++ (x ++ y)
both a b c x y first second = second ∙ (ap (λ t. t ++ y) first ∙ append_assoc a x y)

pub returns : goal.returns
returns c =
    let fault = c.args.fault.now in
    let start = c.args.json.now.items in
    let a = c.push_extent.new.json.items in
    let b = c.push_text.new.json.items in
    let d = c.push_text-2.new.json.items in
    let e = c.push_optional.new.json.items in
    let f = c.push_optional-2.new.json.items in
    let new = c.extend_from_slice.new.self.items in
    let kind = codes ",\"kind\":" ++ text_json (kind_in fault) in
    let said : Text → Text = λ t. codes ",\"message\":" ++ text_json t in
    let wanted : Option Text → Text = λ o. codes ",\"expected\":" ++ or_null o in
    let helps : Option Text → Text = λ o. codes ",\"help\":" ++ or_null o in
    let message : d ≡ b ++ said (string_bytes fault.message) = c.in_ok-push_text-2.ensures ∙ ap (λ t. b ++ said t) c.as_str.ensures.value in
    let expected : e ≡ d ++ wanted (expected_in fault) = c.in_ok-push_optional.ensures ∙ ap (λ o. d ++ wanted o) c.expected.ensures in
    let help : f ≡ e ++ helps (help_in fault) = c.in_ok-push_optional-2.ensures ∙ ap (λ o. e ++ helps o) c.help.ensures in
    let end : new ≡ f ++ codes "}" = c.in_ok-extend_from_slice.ensures.items in
    let last = both e f new (helps (help_in fault)) (codes "}") help end in
    let three = both d e new (wanted (expected_in fault)) (helps (help_in fault) ++ codes "}") expected last in
    let four = both b d new (said (string_bytes fault.message)) (wanted (expected_in fault) ++ (helps (help_in fault) ++ codes "}")) message three in
    let five = both a b new kind (said (string_bytes fault.message) ++ (wanted (expected_in fault) ++ (helps (help_in fault) ++ codes "}"))) c.in_ok-push_text.ensures four in
    both start a new (extent_json (reach fault)) (kind ++ (said (string_bytes fault.message) ++ (wanted (expected_in fault) ++ (helps (help_in fault) ++ codes "}"))))
    c.in_ok-push_extent.ensures five
